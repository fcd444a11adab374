-- docs/RULES.md, 16.1, the first demand: the entries' list is of the functions themselves. For each, its own contract, as the checker generated it from the source
-- (`Reads.Post`), gives its line's promise, of what it was handed, the buffer before and after and the answer. So `refused_keeps` and
-- `place_said` hold of whatever meets that contract. Of `record_writing::rewrite` the checker makes no plain form; its contract cites its line's
-- definition, `IsHanded`, over the record's image and fields. Last, demand 3 of the function itself.
use Rattle.std.specs.Prelude.{ℕ, List}
use contract.Lifetimes.{Lfts}
use borrow.Fn.Kinds.{Dens, res_t, ended_of, ParamKind, ResultKind, Out}
use denote.Triple.Clauses.{AtExit}
use Rattle.writer_plain.proofs.write_key.Reads as write_key_reads
use Rattle.writer_plain.proofs.write_key.Kinds as write_key_kinds
use Rattle.writer_plain.proofs.write_parts.Reads as write_parts_reads
use Rattle.writer_plain.proofs.write_parts.Kinds as write_parts_kinds
use Rattle.writer_rsa.proofs.write_parts.Reads as write_numbers_reads
use Rattle.writer_rsa.proofs.write_parts.Kinds as write_numbers_kinds
use Rattle.writer_rsa.proofs.write_rsa.Reads as write_rsa_reads
use Rattle.writer_rsa.proofs.write_rsa.Kinds as write_rsa_kinds
use Rattle.writer_plain.proofs.write_plain.Reads as write_plain_reads
use Rattle.writer_plain.proofs.write_plain.Kinds as write_plain_kinds
use Rattle.writer_encrypted.proofs.write_encrypted.Reads as write_encrypted_reads
use Rattle.writer_encrypted.proofs.write_encrypted.Kinds as write_encrypted_kinds
use Rattle.writer_again.proofs.rewrite.Reads as rewrite_reads
use Rattle.writer_again.proofs.rewrite.Kinds as rewrite_kinds
use Rattle.writer_again.proofs.rewrite_record.Reads as rewrite_record_reads
use Rattle.writer_again.proofs.rewrite_record.Kinds as rewrite_record_kinds
use Rattle.comment_change.proofs.change_comment.Reads as change_comment_reads
use Rattle.comment_change.proofs.change_comment.Kinds as change_comment_kinds
use Rattle.report_parts.proofs.hand_text.Reads as hand_text_reads
use Rattle.report_parts.proofs.hand_text.Kinds as hand_text_kinds
use Rattle.inspect_report.proofs.write_report.Reads as write_report_reads
use Rattle.inspect_report.proofs.write_report.Kinds as write_report_kinds
use Rattle.keys_report.proofs.write_keys_report.Reads as write_keys_report_reads
use Rattle.keys_report.proofs.write_keys_report.Kinds as write_keys_report_kinds
use Rattle.armour_export.proofs.export.Reads as export_reads
use Rattle.armour_export.proofs.export.Kinds as export_kinds
use Rattle.armour_import.proofs.import.Reads as import_reads
use Rattle.armour_import.proofs.import.Kinds as import_kinds
use Rattle.c_writing.proofs.saltorchard_write_plain.Reads as saltorchard_write_plain_reads
use Rattle.c_writing.proofs.saltorchard_write_plain.Kinds as saltorchard_write_plain_kinds
use Rattle.c_writing.proofs.saltorchard_write_rsa.Reads as saltorchard_write_rsa_reads
use Rattle.c_writing.proofs.saltorchard_write_rsa.Kinds as saltorchard_write_rsa_kinds
use Rattle.c_writing.proofs.saltorchard_write_encrypted.Reads as saltorchard_write_encrypted_reads
use Rattle.c_writing.proofs.saltorchard_write_encrypted.Kinds as saltorchard_write_encrypted_kinds
use Rattle.c_rewrite.proofs.saltorchard_rewrite.Reads as saltorchard_rewrite_reads
use Rattle.c_rewrite.proofs.saltorchard_rewrite.Kinds as saltorchard_rewrite_kinds
use Rattle.c_change.proofs.saltorchard_change_comment.Reads as saltorchard_change_comment_reads
use Rattle.c_change.proofs.saltorchard_change_comment.Kinds as saltorchard_change_comment_kinds
use Rattle.c_armour.proofs.saltorchard_export.Reads as saltorchard_export_reads
use Rattle.c_armour.proofs.saltorchard_export.Kinds as saltorchard_export_kinds
use Rattle.c_armour.proofs.saltorchard_import.Reads as saltorchard_import_reads
use Rattle.c_armour.proofs.saltorchard_import.Kinds as saltorchard_import_kinds
use Rattle.writer_listed.proofs.write_listed.Reads as write_listed_reads
use Rattle.writer_listed.proofs.write_listed.Kinds as write_listed_kinds
use Rattle.writer_keys.proofs.write_keys.Reads as write_keys_reads
use Rattle.writer_keys.proofs.write_keys.Kinds as write_keys_kinds
use Rattle.writer_keys.proofs.write_filled.Reads as write_named_reads
use Rattle.writer_keys.proofs.write_filled.Kinds as write_named_kinds
use Rattle.comment_change.proofs.change_comment_of.Reads as change_comment_of_reads
use Rattle.comment_change.proofs.change_comment_of.Kinds as change_comment_of_kinds
use Rattle.key_remove.proofs.remove_key.Reads as remove_key_reads
use Rattle.key_remove.proofs.remove_key.Kinds as remove_key_kinds
use Rattle.key_add.proofs.add_key.Reads as add_key_reads
use Rattle.key_add.proofs.add_key.Kinds as add_key_kinds
use Rattle.key_add.proofs.add_rsa.Reads as add_rsa_reads
use Rattle.key_add.proofs.add_rsa.Kinds as add_rsa_kinds
use Rattle.edit_change.proofs.change.Reads as change_places_reads
use Rattle.edit_change.proofs.change.Kinds as change_places_kinds
use Rattle.edit_remove.proofs.remove.Reads as remove_places_reads
use Rattle.edit_remove.proofs.remove.Kinds as remove_places_kinds
use Rattle.edit_add.proofs.open.Reads as open_places_reads
use Rattle.edit_add.proofs.open.Kinds as open_places_kinds
use Rattle.c_writing.proofs.saltorchard_write_keys.Reads as saltorchard_write_keys_reads
use Rattle.c_writing.proofs.saltorchard_write_keys.Kinds as saltorchard_write_keys_kinds
use Rattle.c_change.proofs.saltorchard_change_comment_of.Reads as saltorchard_change_comment_of_reads
use Rattle.c_change.proofs.saltorchard_change_comment_of.Kinds as saltorchard_change_comment_of_kinds
use Rattle.c_add.proofs.saltorchard_add_key.Reads as saltorchard_add_key_reads
use Rattle.c_add.proofs.saltorchard_add_key.Kinds as saltorchard_add_key_kinds
use Rattle.c_add.proofs.saltorchard_add_rsa.Reads as saltorchard_add_rsa_reads
use Rattle.c_add.proofs.saltorchard_add_rsa.Kinds as saltorchard_add_rsa_kinds
use Rattle.c_remove.proofs.saltorchard_remove_key.Reads as saltorchard_remove_key_reads
use Rattle.c_remove.proofs.saltorchard_remove_key.Kinds as saltorchard_remove_key_kinds
use Rattle.reader_image.specs.declared.Fields.{Fields}
use Rattle.writer_plain.specs.Lent.{lent_algorithm, lent_public, lent_private}
use Rattle.claims.specs.Demand.{Asked, Demanded, demand_three}
use Rattle.setting_record.proofs.write.Reads as write_setting_reads
use Rattle.setting_record.proofs.write.Kinds as write_setting_kinds
use Rattle.setting_store.proofs.put.Reads as store_put_reads
use Rattle.setting_store.proofs.put.Kinds as store_put_kinds
use Rattle.setting_store.proofs.move_to_v2.Reads as store_move_reads
use Rattle.setting_store.proofs.move_to_v2.Kinds as store_move_kinds
use Rattle.c_settings.proofs.saltorchard_write_setting.Reads as saltorchard_write_setting_reads
use Rattle.c_settings.proofs.saltorchard_write_setting.Kinds as saltorchard_write_setting_kinds
use Rattle.c_settings.proofs.saltorchard_store_put.Reads as saltorchard_store_put_reads
use Rattle.c_settings.proofs.saltorchard_store_put.Kinds as saltorchard_store_put_kinds
use Rattle.c_settings.proofs.saltorchard_store_move.Reads as saltorchard_store_move_reads
use Rattle.c_settings.proofs.saltorchard_store_move.Kinds as saltorchard_store_move_kinds
use Rattle.claims.specs.Refusals.{write_key, write_parts, write_numbers, write_rsa, write_plain, write_encrypted, rewrite, rewrite_record, change_comment, hand_text, write_report, write_keys_report, export, import, write_setting, store_put, store_move, Promise, saltorchard_write_plain, saltorchard_write_rsa, saltorchard_write_encrypted, saltorchard_rewrite, saltorchard_change_comment, saltorchard_export, saltorchard_import, saltorchard_write_setting, saltorchard_store_put, saltorchard_store_move, PromiseC, write_listed, write_keys, write_named, change_comment_of, remove_key, add_key, add_rsa, change_places, remove_places, open_places, saltorchard_write_keys, saltorchard_change_comment_of, saltorchard_add_key, saltorchard_add_rsa, saltorchard_remove_key}

-- what meets the contract keeps the line: a are the arguments, in their order, r the answer, s what the lent places hold at the end
abbrev pub Listed : (n : ℕ) (ps : List (ParamKind n)) (r : ResultKind n) → Out n ps r → Out n ps r → Type 0
Listed n ps r Post Line =
    (κs : Lfts n) (a : Dens κs ps) (w : (res_t r κs).Denot) (s : AtExit (ended_of n ps r) κs) → Post κs a w s → Line κs a w s

-- writer_plain::write_key
pub write_key_listed :
    Listed 4 write_key_kinds.ps write_key_kinds.r write_key_reads.Post
    (λ κs a r s.
    Promise (write_key (lent_algorithm a.0.now) (lent_public a.0.now) (lent_private a.0.now) a.1.0 a.1.1.0.now)
    a.1.1.1.0.now r s.1.1.1.0.now)
write_key_listed κs a r s p = p

-- writer_plain::write_parts
pub write_parts_listed :
    Listed 4 write_parts_kinds.ps write_parts_kinds.r write_parts_reads.Post
    (λ κs a r s.
    Promise (write_parts a.0 a.1.0.now a.1.1.0.now a.1.1.1.0 a.1.1.1.1.0.now)
    a.1.1.1.1.1.0.now r s.1.1.1.1.1.0.now)
write_parts_listed κs a r s p = p

-- writer_rsa::write_parts
pub write_numbers_listed :
    Listed 8 write_numbers_kinds.ps write_numbers_kinds.r write_numbers_reads.Post
    (λ κs a r s.
    Promise (write_numbers a.0.now a.1.0.now a.1.1.0.now a.1.1.1.0.now a.1.1.1.1.0.now a.1.1.1.1.1.0.now a.1.1.1.1.1.1.0 a.1.1.1.1.1.1.1.0.now)
    a.1.1.1.1.1.1.1.1.0.now r s.1.1.1.1.1.1.1.1.0.now)
write_numbers_listed κs a r s p = p

-- writer_rsa::write_rsa
pub write_rsa_listed :
    Listed 8 write_rsa_kinds.ps write_rsa_kinds.r write_rsa_reads.Post
    (λ κs a r s.
    Promise (write_rsa a.0.now a.1.0.now a.1.1.0.now a.1.1.1.0.now a.1.1.1.1.0.now a.1.1.1.1.1.0.now a.1.1.1.1.1.1.0 a.1.1.1.1.1.1.1.0.now)
    a.1.1.1.1.1.1.1.1.0.now r s.1.1.1.1.1.1.1.1.0.now)
write_rsa_listed κs a r s p = p

-- writer_plain::write_plain
pub write_plain_listed :
    Listed 2 write_plain_kinds.ps write_plain_kinds.r write_plain_reads.Post
    (λ κs a r s. Promise (write_plain a.0 a.1.0 a.1.1.0.now) a.1.1.1.0.now r s.1.1.1.0.now)
write_plain_listed κs a r s p = p

-- writer_encrypted::write_encrypted
pub write_encrypted_listed :
    Listed 5 write_encrypted_kinds.ps write_encrypted_kinds.r write_encrypted_reads.Post
    (λ κs a r s.
    Promise (write_encrypted a.0 a.1.0 a.1.1.0.now a.1.1.1.0 a.1.1.1.1.0.now a.1.1.1.1.1.0.now a.1.1.1.1.1.1.0.now)
    a.1.1.1.1.1.1.1.0.now r s.1.1.1.1.1.1.1.0.now)
write_encrypted_listed κs a r s p = p

-- writer_again::rewrite
pub rewrite_listed :
    Listed 2 rewrite_kinds.ps rewrite_kinds.r rewrite_reads.Post
    (λ κs a r s. Promise (rewrite a.0.now) a.1.0.now r s.1.0.now)
rewrite_listed κs a r s p = p

-- writer_again::rewrite_record
pub rewrite_record_listed :
    Listed 2 rewrite_record_kinds.ps rewrite_record_kinds.r rewrite_record_reads.Post
    (λ κs a r s. Promise (rewrite_record a.0.now a.1.0) a.1.1.0.now r s.1.1.0.now)
rewrite_record_listed κs a r s p = p

-- comment_change::change_comment
pub change_comment_listed :
    Listed 2 change_comment_kinds.ps change_comment_kinds.r change_comment_reads.Post
    (λ κs a r s. Promise (change_comment a.1.0 a.1.1.0.now) a.0.now r s.0.now)
change_comment_listed κs a r s p = p

-- report_parts::hand_text
pub hand_text_listed :
    Listed 2 hand_text_kinds.ps hand_text_kinds.r hand_text_reads.Post
    (λ κs a r s. Promise (hand_text a.0.now) a.1.0.now r s.1.0.now)
hand_text_listed κs a r s p = p

-- keys_report::write_keys_report
pub write_keys_report_listed :
    Listed 2 write_keys_report_kinds.ps write_keys_report_kinds.r write_keys_report_reads.Post
    (λ κs a r s. Promise (write_keys_report a.0.now) a.1.0.now r s.1.0.now)
write_keys_report_listed κs a r s p = p

-- inspect_report::write_report
pub write_report_listed :
    Listed 2 write_report_kinds.ps write_report_kinds.r write_report_reads.Post
    (λ κs a r s. Promise (write_report a.0.now) a.1.0.now r s.1.0.now)
write_report_listed κs a r s p = p

-- armour_export::export
pub export_listed :
    Listed 2 export_kinds.ps export_kinds.r export_reads.Post
    (λ κs a r s. Promise (export a.0.now) a.1.0.now r s.1.0.now)
export_listed κs a r s p = p

-- armour_import::import
pub import_listed :
    Listed 2 import_kinds.ps import_kinds.r import_reads.Post
    (λ κs a r s. Promise (import a.0.now) a.1.0.now r s.1.0.now)
import_listed κs a r s p = p

-- c_writing::saltorchard_write_plain
pub saltorchard_write_plain_listed :
    Listed 4 saltorchard_write_plain_kinds.ps saltorchard_write_plain_kinds.r saltorchard_write_plain_reads.Post
    (λ κs a r s.
    PromiseC (saltorchard_write_plain a.0 a.1.0.now a.1.1.0.now a.1.1.1.0 a.1.1.1.1.0 a.1.1.1.1.1.0.now)
    a.1.1.1.1.1.1.0.now r s.1.1.1.1.1.1.0.now)
saltorchard_write_plain_listed κs a r s p = p

-- c_writing::saltorchard_write_rsa
pub saltorchard_write_rsa_listed :
    Listed 8 saltorchard_write_rsa_kinds.ps saltorchard_write_rsa_kinds.r saltorchard_write_rsa_reads.Post
    (λ κs a r s.
    PromiseC (saltorchard_write_rsa a.0.now a.1.0.now a.1.1.0.now a.1.1.1.0.now a.1.1.1.1.0.now a.1.1.1.1.1.0.now a.1.1.1.1.1.1.0 a.1.1.1.1.1.1.1.0 a.1.1.1.1.1.1.1.1.0.now)
    a.1.1.1.1.1.1.1.1.1.0.now r s.1.1.1.1.1.1.1.1.1.0.now)
saltorchard_write_rsa_listed κs a r s p = p

-- c_writing::saltorchard_write_encrypted
pub saltorchard_write_encrypted_listed :
    Listed 5 saltorchard_write_encrypted_kinds.ps saltorchard_write_encrypted_kinds.r saltorchard_write_encrypted_reads.Post
    (λ κs a r s.
    PromiseC (saltorchard_write_encrypted a.0 a.1.0 a.1.1.0.now a.1.1.1.0 a.1.1.1.1.0.now a.1.1.1.1.1.0.now a.1.1.1.1.1.1.0.now)
    a.1.1.1.1.1.1.1.0.now r s.1.1.1.1.1.1.1.0.now)
saltorchard_write_encrypted_listed κs a r s p = p

-- c_rewrite::saltorchard_rewrite
pub saltorchard_rewrite_listed :
    Listed 2 saltorchard_rewrite_kinds.ps saltorchard_rewrite_kinds.r saltorchard_rewrite_reads.Post
    (λ κs a r s. PromiseC (saltorchard_rewrite a.0.now) a.1.0.now r s.1.0.now)
saltorchard_rewrite_listed κs a r s p = p

-- c_change::saltorchard_change_comment
pub saltorchard_change_comment_listed :
    Listed 2 saltorchard_change_comment_kinds.ps saltorchard_change_comment_kinds.r saltorchard_change_comment_reads.Post
    (λ κs a r s. PromiseC (saltorchard_change_comment a.1.0 a.1.1.0.now) a.0.now r s.0.now)
saltorchard_change_comment_listed κs a r s p = p

-- c_armour::saltorchard_export
pub saltorchard_export_listed :
    Listed 2 saltorchard_export_kinds.ps saltorchard_export_kinds.r saltorchard_export_reads.Post
    (λ κs a r s. PromiseC (saltorchard_export a.0.now) a.1.0.now r s.1.0.now)
saltorchard_export_listed κs a r s p = p

-- c_armour::saltorchard_import
pub saltorchard_import_listed :
    Listed 2 saltorchard_import_kinds.ps saltorchard_import_kinds.r saltorchard_import_reads.Post
    (λ κs a r s. PromiseC (saltorchard_import a.0.now) a.1.0.now r s.1.0.now)
saltorchard_import_listed κs a r s p = p

-- writer_listed::write_listed
pub write_listed_listed :
    Listed 2 write_listed_kinds.ps write_listed_kinds.r write_listed_reads.Post
    (λ κs a r s.
    Promise (write_listed a.0.now a.1.0)
    a.1.1.0.now r s.1.1.0.now)
write_listed_listed κs a r s p = p

-- writer_keys::write_keys
pub write_keys_listed :
    Listed 3 write_keys_kinds.ps write_keys_kinds.r write_keys_reads.Post
    (λ κs a r s.
    Promise (write_keys a.0.now a.1.0.now a.1.1.0)
    a.1.1.1.0.now r s.1.1.1.0.now)
write_keys_listed κs a r s p = p

-- writer_keys::write_filled
pub write_named_listed :
    Listed 3 write_named_kinds.ps write_named_kinds.r write_named_reads.Post
    (λ κs a r s.
    Promise (write_named a.0.now a.1.0.now a.1.1.0)
    a.1.1.1.0.now r s.1.1.1.0.now)
write_named_listed κs a r s p = p

-- comment_change::change_comment_of
pub change_comment_of_listed :
    Listed 2 change_comment_of_kinds.ps change_comment_of_kinds.r change_comment_of_reads.Post
    (λ κs a r s.
    Promise (change_comment_of a.1.0 a.1.1.0 a.1.1.1.0.now)
    a.0.now r s.0.now)
change_comment_of_listed κs a r s p = p

-- key_remove::remove_key
pub remove_key_listed :
    Listed 1 remove_key_kinds.ps remove_key_kinds.r remove_key_reads.Post
    (λ κs a r s.
    Promise (remove_key a.1.0 a.1.1.0)
    a.0.now r s.0.now)
remove_key_listed κs a r s p = p

-- key_add::add_key
pub add_key_listed :
    Listed 4 add_key_kinds.ps add_key_kinds.r add_key_reads.Post
    (λ κs a r s.
    Promise (add_key a.1.0 a.1.1.0 a.1.1.1.0.now a.1.1.1.1.0.now a.1.1.1.1.1.0.now)
    a.0.now r s.0.now)
add_key_listed κs a r s p = p

-- key_add::add_rsa
pub add_rsa_listed :
    Listed 8 add_rsa_kinds.ps add_rsa_kinds.r add_rsa_reads.Post
    (λ κs a r s.
    Promise (add_rsa a.1.0 a.1.1.0.now a.1.1.1.0.now a.1.1.1.1.0.now a.1.1.1.1.1.0.now a.1.1.1.1.1.1.0.now a.1.1.1.1.1.1.1.0.now a.1.1.1.1.1.1.1.1.0.now)
    a.0.now r s.0.now)
add_rsa_listed κs a r s p = p

-- edit_change::change
pub change_places_listed :
    Listed 2 change_places_kinds.ps change_places_kinds.r change_places_reads.Post
    (λ κs a r s.
    Promise (change_places a.1.0 a.1.1.0.section a.1.1.0.field a.1.1.0.past a.1.1.0.end a.1.1.1.0.now)
    a.0.now r s.0.now)
change_places_listed κs a r s p = p

-- edit_remove::remove
pub remove_places_listed :
    Listed 1 remove_places_kinds.ps remove_places_kinds.r remove_places_reads.Post
    (λ κs a r s.
    Promise (remove_places a.1.0 a.1.1.0 a.1.1.1.0.blob a.1.1.1.0.after a.1.1.1.0.section a.1.1.1.0.pair a.1.1.1.0.past a.1.1.1.0.end)
    a.0.now r s.0.now)
remove_places_listed κs a r s p = p

-- edit_add::open
pub open_places_listed :
    Listed 1 open_places_kinds.ps open_places_kinds.r open_places_reads.Post
    (λ κs a r s.
    Promise (open_places a.1.0 a.1.1.0 a.1.1.1.0.section a.1.1.1.0.end a.1.1.1.0.blob a.1.1.1.0.own)
    a.0.now r s.0.now)
open_places_listed κs a r s p = p

-- c_writing::saltorchard_write_keys
pub saltorchard_write_keys_listed :
    Listed 3 saltorchard_write_keys_kinds.ps saltorchard_write_keys_kinds.r saltorchard_write_keys_reads.Post
    (λ κs a r s.
    PromiseC (saltorchard_write_keys a.0.now a.1.0.now a.1.1.0 a.1.1.1.0)
    a.1.1.1.1.0.now r s.1.1.1.1.0.now)
saltorchard_write_keys_listed κs a r s p = p

-- c_change::saltorchard_change_comment_of
pub saltorchard_change_comment_of_listed :
    Listed 2 saltorchard_change_comment_of_kinds.ps saltorchard_change_comment_of_kinds.r saltorchard_change_comment_of_reads.Post
    (λ κs a r s.
    PromiseC (saltorchard_change_comment_of a.1.0 a.1.1.0 a.1.1.1.0.now)
    a.0.now r s.0.now)
saltorchard_change_comment_of_listed κs a r s p = p

-- c_add::saltorchard_add_key
pub saltorchard_add_key_listed :
    Listed 4 saltorchard_add_key_kinds.ps saltorchard_add_key_kinds.r saltorchard_add_key_reads.Post
    (λ κs a r s.
    PromiseC (saltorchard_add_key a.1.0 a.1.1.0 a.1.1.1.0.now a.1.1.1.1.0.now a.1.1.1.1.1.0.now)
    a.0.now r s.0.now)
saltorchard_add_key_listed κs a r s p = p

-- c_add::saltorchard_add_rsa
pub saltorchard_add_rsa_listed :
    Listed 8 saltorchard_add_rsa_kinds.ps saltorchard_add_rsa_kinds.r saltorchard_add_rsa_reads.Post
    (λ κs a r s.
    PromiseC (saltorchard_add_rsa a.1.0 a.1.1.0.now a.1.1.1.0.now a.1.1.1.1.0.now a.1.1.1.1.1.0.now a.1.1.1.1.1.1.0.now a.1.1.1.1.1.1.1.0.now a.1.1.1.1.1.1.1.1.0.now)
    a.0.now r s.0.now)
saltorchard_add_rsa_listed κs a r s p = p

-- c_remove::saltorchard_remove_key
pub saltorchard_remove_key_listed :
    Listed 1 saltorchard_remove_key_kinds.ps saltorchard_remove_key_kinds.r saltorchard_remove_key_reads.Post
    (λ κs a r s.
    PromiseC (saltorchard_remove_key a.1.0 a.1.1.0)
    a.0.now r s.0.now)
saltorchard_remove_key_listed κs a r s p = p

-- setting_record::write
pub write_setting_listed :
    Listed 1 write_setting_kinds.ps write_setting_kinds.r write_setting_reads.Post
    (λ κs a r s. Promise (write_setting a.0 a.1.0 a.1.1.0) a.1.1.1.0.now r s.1.1.1.0.now)
write_setting_listed κs a r s p = p

-- setting_store::put
pub store_put_listed :
    Listed 1 store_put_kinds.ps store_put_kinds.r store_put_reads.Post
    (λ κs a r s. Promise (store_put a.1.0 a.1.1.0 a.1.1.1.0 a.1.1.1.1.0) a.0.now r s.0.now)
store_put_listed κs a r s p = p

-- setting_store::move_to_v2
pub store_move_listed :
    Listed 1 store_move_kinds.ps store_move_kinds.r store_move_reads.Post
    (λ κs a r s. Promise store_move a.0.now r s.0.now)
store_move_listed κs a r s p = p

-- c_settings::saltorchard_write_setting
pub saltorchard_write_setting_listed :
    Listed 1 saltorchard_write_setting_kinds.ps saltorchard_write_setting_kinds.r saltorchard_write_setting_reads.Post
    (λ κs a r s. PromiseC (saltorchard_write_setting a.0 a.1.0 a.1.1.0) a.1.1.1.0.now r s.1.1.1.0.now)
saltorchard_write_setting_listed κs a r s p = p

-- c_settings::saltorchard_store_put
pub saltorchard_store_put_listed :
    Listed 1 saltorchard_store_put_kinds.ps saltorchard_store_put_kinds.r saltorchard_store_put_reads.Post
    (λ κs a r s. PromiseC (saltorchard_store_put a.1.0 a.1.1.0 a.1.1.1.0 a.1.1.1.1.0) a.0.now r s.0.now)
saltorchard_store_put_listed κs a r s p = p

-- c_settings::saltorchard_store_move
pub saltorchard_store_move_listed :
    Listed 1 saltorchard_store_move_kinds.ps saltorchard_store_move_kinds.r saltorchard_store_move_reads.Post
    (λ κs a r s. PromiseC saltorchard_store_move a.0.now r s.0.now)
saltorchard_store_move_listed κs a r s p = p

-- demand 3 of whatever meets the comment change's own contract
pub change_comment_demanded :
    (f : Fields)
    → Listed 2 change_comment_of_kinds.ps change_comment_of_kinds.r change_comment_of_reads.Post
    (λ κs a r s.
    Asked a.0.now a.1.0 f a.1.1.0 a.1.1.1.0.now
    → Demanded a.0.now a.1.0 f a.1.1.0 a.1.1.1.0.now r s.0.now)
change_comment_demanded f κs a r s p asked = demand_three a.0.now a.1.0 f a.1.1.0 a.1.1.1.0.now asked r s.0.now p
