-- docs/RULES.md, 16.2, the second demand, and 10.10: what the writer of a list accepts and stores is read back as exactly the keys that its text and
-- its table name, in their order, over the promises of `writer_keys::write_keys` and of `saltorchard_write_keys`.
use Rattle.std.specs.Prelude.{ℕ, zero, suc, ◌+◌, ◌/◌, ◌<◌, ◌^◌, ◌≡◌, refl, true, false, List, [], ◌∷◌, map, length, take, Ok, Err, Option}
use Rattle.std.proofs.Common.{arith, sym, ◌∙◌, ap, eq-eqb}
use Rattle.std.proofs.lemmas.List.{length-map}
use Rattle.fields.specs.Place.{clash}
use Rattle.fields.specs.Refusals.{number_of, never_zero}
use Rattle.fields.specs.declared.Refusal.TheVariants.{Length, AlgorithmUnknown}
use Rattle.names.specs.declared.Algorithm.{Algorithm}
use Rattle.names.specs.declared.Algorithm.TheVariants.{Elliptic as OnCurve, Rsa}
use Rattle.format.specs.Format.{Key, filled_key, written_image}
use Rattle.key_material.specs.Material.{checkint_of}
use Rattle.reader_section.specs.declared.Kind.TheVariants.{Plain}
use Rattle.reader_image.specs.declared.Fields.{Fields}
use Rattle.reader_image.specs.Container.{keys_in, read_at}
use Rattle.reader_image.specs.Form.{form_of}
use Rattle.writer_reply.specs.Reply.{told, left, Written}
use Rattle.writer_plain.specs.Plain.{keys_reply, keys_left}
use Rattle.writer_table.specs.Table.{rows_from, rows, algorithm_at, public_at, private_at, key_at, keys_named, code_known, every, table_fits, table_checked}
use Rattle.writer_keys.specs.Named.{named_reply, named_left, first_private}
use Rattle.c_reply.specs.declared.Reply.{Reply}
use Rattle.c_reply.specs.Replies.{reply_of}
use Rattle.c_writing.specs.Coded.{checkint_for}
use Rattle.claims.specs.Reading.{held, Own, AllOwn, Writes, trimmed_key, plain_accepted, read_after_write}
use Rattle.claims.specs.Rewritten.{plain_in_form}
use Rattle.claims.specs.Change.{one_record}
use Rattle.claims.specs.Refusals.{write_keys, Promise, saltorchard_write_keys, PromiseC}

-- what is read: as many keys as the table has, these in their order, each scalar filled to SIZE bytes again, under that checkint and in the form
pub record NamedRead (text table : List ℕ) (n : ℕ) (s : List ℕ) : Type 0 where
  pub fields : Fields
  pub read : read_at s ≡ Ok fields
  pub plain : fields.section.kind ≡ Plain
  pub checkint : fields.section.checkint ≡ n
  pub count : fields.header.count ≡ length table / 19
  pub keys : map filled_key (keys_in s fields) ≡ keys_named text table
  pub form : form_of s fields ≡ true

-- ---- the keys of a table

key_own : (a : Algorithm) (text table : List ℕ) (j : ℕ) → Own a (public_at a text table j) (private_at a text table j)
key_own (OnCurve e) text table j = (refl, refl)
key_own Rsa text table j = (refl, refl)

keys_own : (text table l : List ℕ) → AllOwn (map (key_at text table) l)
unfolding key_at
keys_own text table [] = tt
keys_own text table (j ∷ l) = (key_own (algorithm_at table j) text table j, keys_own text table l)

named_own : (text table : List ℕ) → AllOwn (keys_named text table)
unfolding keys_named
named_own text table = keys_own text table (rows table)

rows_many : (j n : ℕ) → length (rows_from j n) ≡ n
unfolding rows_from
rows_many j zero = refl
rows_many j (suc n) = ap suc (rows_many (j + 19) n)

named_many : (text table : List ℕ) → length (keys_named text table) ≡ length table / 19
unfolding keys_named
named_many text table = length-map (rows table) (key_at text table) ∙ rows_many 0 (length table / 19)

-- ---- an accepted write is one of these keys

named_keys_lem : (text table : List ℕ) (n room k : ℕ) → named_reply false text table n room ≡ Ok k → keys_reply (keys_named text table) n room ≡ Ok k
unfolding named_reply table_checked
named_keys_lem text table n room k e =
    let next = keys_reply (keys_named text table) n room in
    let fits = held (table_fits text table) Length _ k e in
    (held (every (code_known table) (rows table)) AlgorithmUnknown next k fits.1).1

named_left_lem : (text table : List ℕ) (n : ℕ) (old : List ℕ) (k : ℕ) → named_reply false text table n (length old) ≡ Ok k → named_left false text table n old ≡ keys_left (keys_named text table) n old
unfolding named_left keys_left
named_left_lem text table n old k e =
    ap (λ (w : Written). left w (written_image n (keys_named text table)) old) (e ∙ sym (named_keys_lem text table n (length old) k e))

-- ---- read again

keys_read :
    (keys : List Key) (n : ℕ) (old : List ℕ) (k : ℕ) → n < 2 ^ 32 → AllOwn keys → keys_reply keys n (length old) ≡ Ok k
    → (f : Fields) × (read_at (take k (keys_left keys n old)) ≡ Ok f) × (f.section.kind ≡ Plain) × (f.section.checkint ≡ n)
    × (f.header.count ≡ length keys) × (keys_in (take k (keys_left keys n old)) f ≡ map trimmed_key keys)
keys_read [] n old k small own e = absurd (omega (arith, (plain_accepted [] n (length old) k e).some))
keys_read (x ∷ others) n old k small own e =
    let b = read_after_write x others n old k small own e in
    (b.fields, b.read, b.plain, b.same_checkint, b.same_count ∙ ap suc (length-map others trimmed_key), b.same_keys)

module _ (text table : List ℕ) (n : ℕ) (small : n < 2 ^ 32) (old : List ℕ) where
  named_read : (k : ℕ) → named_reply false text table n (length old) ≡ Ok k → NamedRead text table n (take k (named_left false text table n old))
  named_read k e =
      let keys = keys_named text table in
      let own = named_own text table in
      let reply = named_keys_lem text table n (length old) k e in
      let b = keys_read keys n old k small own reply in
      let writes : Writes keys n old (Ok k) (keys_left keys n old) = (sym reply, refl, ap told (sym reply)) in
      let form = plain_in_form keys n old (Ok k) (keys_left keys n old) k small own writes refl in
      rw (named_left_lem text table n old k e)
      (record {
        fields = b.0;
        read = b.1;
        plain = b.2;
        checkint = b.3;
        count = b.4 ∙ named_many text table;
        keys = ap (map filled_key) b.5 ∙ (plain_accepted keys n (length old) k reply).material own;
        form =
            ap (form_of (take k (keys_left keys n old))) (one_record (take k (keys_left keys n old)) b.0 form.0 b.1 form.1)
            ∙ form.2;
      })

-- the claim, of `writer_keys::write_keys`
pub keys_read_back :
    (text table : List ℕ) (given : Option ℕ) (old : List ℕ) (r : Written) (out : List ℕ) (k : ℕ) → checkint_of given (first_private text table) < 2 ^ 32
    → Promise (write_keys text table given) old r out → r ≡ Ok k → NamedRead text table (checkint_of given (first_private text table)) (take k out)
keys_read_back text table given old r out k small p answered =
    rw p.1 (named_read text table (checkint_of given (first_private text table)) small old k (sym p.0 ∙ answered))

-- and of `saltorchard_write_keys`: its number is 0 where it accepts
by_reply :
    (text table : List ℕ) (n : ℕ) → n < 2 ^ 32 → (old : List ℕ) (w : Written) → named_reply false text table n (length old) ≡ w → (reply_of w).number ≡ 0
    → NamedRead text table n (take (reply_of w).length (named_left false text table n old))
unfolding reply_of told
by_reply text table n small old (Err g) e accepted =
    clash (let o : true ≡ false = sym (eq-eqb (number_of g.why) 0 accepted) ∙ never_zero g.why in cc)
by_reply text table n small old (Ok k) e accepted = named_read text table n small old k e

pub keys_read_back_c :
    (text table : List ℕ) (derive checkint : ℕ) (old : List ℕ) (r : Reply) (out : List ℕ) → checkint_for derive checkint (first_private text table) < 2 ^ 32
    → PromiseC (saltorchard_write_keys table text derive checkint) old r out → r.number ≡ 0
    → NamedRead text table (checkint_for derive checkint (first_private text table)) (take r.length out)
keys_read_back_c text table derive checkint old r out small p accepted =
    let n = checkint_for derive checkint (first_private text table) in
    let w = named_reply false text table n (length old) in
    let answer : (reply_of w).number ≡ 0 = ap (λ (x : Reply). x.number) (sym p.0) ∙ accepted in
    rw (p.0, p.1) (by_reply text table n small old w refl answer)
