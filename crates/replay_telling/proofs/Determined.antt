-- Any two replies that meet a public function's own contract are equal. Of a view, that it is the same part of the caller's memory.
-- Rests on the contracts being equations. Of a function that says something, any two that report no failed write: it answers nothing
-- else, and what it puts to the output is in no contract.
use Rattle.std.specs.Prelude.{◌≡◌, IsOk, Ok, Err, Result}
use Rattle.std.specs.declared.io.traits.Write.{Ghosts}
use denote.Param.Laws.{Laws}
use denote.RattleType.{RattleType}
use mathlib.Core.Path.{refl}
use mir.Syntax.{Dict}
use contract.Lifetimes.{Lfts}
use borrow.Fn.Kinds.{Dens, res_t, ended_of}
use denote.Triple.Clauses.{AtExit}
use Rattle.fields.specs.Determined.{Determined}
use Rattle.replay_telling.specs.Determined.{DeterminedIf}
use Rattle.replay_telling.proofs.number_at.Reads as number_at
use Rattle.replay_telling.proofs.number_at.Kinds as number_at_kinds
use Rattle.replay_telling.proofs.text_of.Reads as text_of
use Rattle.replay_telling.proofs.text_of.Kinds as text_of_kinds
use Rattle.replay_telling.proofs.halves.Reads as halves
use Rattle.replay_telling.proofs.halves.Kinds as halves_kinds
use Rattle.replay_telling.proofs.algorithm_of.Reads as algorithm-of
use Rattle.replay_telling.proofs.algorithm_of.Kinds as algorithm_of_kinds
use Rattle.replay_telling.proofs.elliptic_of.Reads as elliptic-of
use Rattle.replay_telling.proofs.elliptic_of.Kinds as elliptic_of_kinds
use Rattle.replay_telling.proofs.checkint_of.Reads as checkint-of
use Rattle.replay_telling.proofs.checkint_of.Kinds as checkint_of_kinds
use Rattle.replay_telling.proofs.cipher_of.Reads as cipher-of
use Rattle.replay_telling.proofs.cipher_of.Kinds as cipher_of_kinds
use Rattle.replay_telling.proofs.kdf_of.Reads as kdf-of
use Rattle.replay_telling.proofs.kdf_of.Kinds as kdf_of_kinds
use Rattle.replay_telling.proofs.entry_of.Reads as entry-of
use Rattle.replay_telling.proofs.entry_of.Kinds as entry_of_kinds
use Rattle.replay_telling.proofs.Call.number.Reads as number
use Rattle.replay_telling.proofs.Call.number.Kinds as number_kinds
use Rattle.replay_telling.proofs.Call.text.Reads as text
use Rattle.replay_telling.proofs.Call.text.Kinds as text_kinds
use Rattle.replay_telling.proofs.Call.entry.Reads as entry
use Rattle.replay_telling.proofs.Call.entry.Kinds as entry_kinds
use Rattle.replay_telling.proofs.rest_of.Reads as rest_of
use Rattle.replay_telling.proofs.rest_of.Kinds as rest_of_kinds
use Rattle.replay_telling.proofs.word.Reads as word
use Rattle.replay_telling.proofs.word.Kinds as word_kinds
use Rattle.replay_telling.proofs.say_number.Reads as say_number
use Rattle.replay_telling.proofs.say_number.Kinds as say_number_kinds
use Rattle.replay_telling.proofs.say_entry.Reads as say_entry
use Rattle.replay_telling.proofs.say_entry.Kinds as say_entry_kinds
use Rattle.replay_telling.proofs.say_place.Reads as say_place
use Rattle.replay_telling.proofs.say_place.Kinds as say_place_kinds
use Rattle.replay_telling.proofs.say_reply.Reads as say_reply
use Rattle.replay_telling.proofs.say_reply.Kinds as say_reply_kinds
use Rattle.replay_telling.proofs.say_refused.Reads as say_refused
use Rattle.replay_telling.proofs.say_refused.Kinds as say_refused_kinds
use Rattle.replay_telling.proofs.say_written.Reads as say_written
use Rattle.replay_telling.proofs.say_written.Kinds as say_written_kinds
use Rattle.replay_telling.proofs.say_places.Reads as say_places
use Rattle.replay_telling.proofs.say_places.Kinds as say_places_kinds
use Rattle.replay_telling.proofs.say_buffer.Reads as say_buffer
use Rattle.replay_telling.proofs.say_buffer.Kinds as say_buffer_kinds

-- a reply that is no error says nothing but that
said : {E : Type 0} (x y : Result Unit E) → IsOk x → IsOk y → x ≡ y
said (Ok x) (Ok y) u v = refl
said (Ok x) (Err f) u v = cc
said (Err e) y u v = cc

pub number_at_determined : Determined 1 number_at_kinds.ps number_at_kinds.r number_at.Post
number_at_determined κs a r₁ r₂ s₁ s₂ p q = cc

pub text_of_determined :
    (κs : Lfts 2) (a : Dens κs text_of_kinds.ps) (r₁ r₂ : (res_t text_of_kinds.r κs).Denot) (s₁ s₂ : AtExit (ended_of 2 text_of_kinds.ps text_of_kinds.r) κs)
    → text_of.Post κs a r₁ s₁ → text_of.Post κs a r₂ s₂ → (r₁.now ≡ r₂.now) × (r₁.ref_ptr.0 ≡ r₂.ref_ptr.0) × (r₁.ref_ptr.1 ≡ r₂.ref_ptr.1)
text_of_determined κs a r₁ r₂ s₁ s₂ p q = (cc, cc, cc)

pub halves_determined : Determined 0 halves_kinds.ps halves_kinds.r halves.Post
halves_determined κs a r₁ r₂ s₁ s₂ p q = cc

pub algorithm_of_determined : Determined 0 algorithm_of_kinds.ps algorithm_of_kinds.r algorithm-of.Post
algorithm_of_determined κs a r₁ r₂ s₁ s₂ p q = cc

pub elliptic_of_determined : Determined 0 elliptic_of_kinds.ps elliptic_of_kinds.r elliptic-of.Post
elliptic_of_determined κs a r₁ r₂ s₁ s₂ p q = cc

pub checkint_of_determined : Determined 0 checkint_of_kinds.ps checkint_of_kinds.r checkint-of.Post
checkint_of_determined κs a r₁ r₂ s₁ s₂ p q = cc

pub cipher_of_determined : Determined 0 cipher_of_kinds.ps cipher_of_kinds.r cipher-of.Post
cipher_of_determined κs a r₁ r₂ s₁ s₂ p q = cc

pub kdf_of_determined : Determined 0 kdf_of_kinds.ps kdf_of_kinds.r kdf-of.Post
kdf_of_determined κs a r₁ r₂ s₁ s₂ p q = cc

pub entry_of_determined : Determined 0 entry_of_kinds.ps entry_of_kinds.r entry-of.Post
entry_of_determined κs a r₁ r₂ s₁ s₂ p q = cc

pub number_determined : Determined 1 number_kinds.ps number_kinds.r number.Post
number_determined κs a r₁ r₂ s₁ s₂ p q = cc

pub entry_determined : Determined 1 entry_kinds.ps entry_kinds.r entry.Post
entry_determined κs a r₁ r₂ s₁ s₂ p q = cc

pub text_determined :
    (κs : Lfts 1) (a : Dens κs text_kinds.ps) (r₁ r₂ : (res_t text_kinds.r κs).Denot) (s₁ s₂ : AtExit (ended_of 1 text_kinds.ps text_kinds.r) κs)
    → text.Post κs a r₁ s₁ → text.Post κs a r₂ s₂ → (r₁.now ≡ r₂.now) × (r₁.ref_ptr.0 ≡ r₂.ref_ptr.0) × (r₁.ref_ptr.1 ≡ r₂.ref_ptr.1)
text_determined κs a r₁ r₂ s₁ s₂ p q = (cc, cc, cc)

pub rest_of_determined : Determined 1 rest_of_kinds.ps rest_of_kinds.r rest_of.Post
rest_of_determined κs a r₁ r₂ s₁ s₂ p q = cc

pub word_determined :
    (W : RattleType) (L : Laws W) (G : Ghosts W.Denot) (d : Dict) →
    DeterminedIf 3 (word_kinds.ps W L) (word_kinds.r W L) (λ κs x. IsOk x) (word.Post W L G d)
word_determined W L G d κs a x y s₁ s₂ p q = said x y

pub say_number_determined :
    (W : RattleType) (L : Laws W) (G : Ghosts W.Denot) (d : Dict) →
    DeterminedIf 2 (say_number_kinds.ps W L) (say_number_kinds.r W L) (λ κs x. IsOk x) (say_number.Post W L G d)
say_number_determined W L G d κs a x y s₁ s₂ p q = said x y

pub say_entry_determined :
    (W : RattleType) (L : Laws W) (G : Ghosts W.Denot) (d : Dict) →
    DeterminedIf 2 (say_entry_kinds.ps W L) (say_entry_kinds.r W L) (λ κs x. IsOk x) (say_entry.Post W L G d)
say_entry_determined W L G d κs a x y s₁ s₂ p q = said x y

pub say_place_determined :
    (W : RattleType) (L : Laws W) (G : Ghosts W.Denot) (d : Dict) →
    DeterminedIf 2 (say_place_kinds.ps W L) (say_place_kinds.r W L) (λ κs x. IsOk x) (say_place.Post W L G d)
say_place_determined W L G d κs a x y s₁ s₂ p q = said x y

pub say_reply_determined :
    (W : RattleType) (L : Laws W) (G : Ghosts W.Denot) (d : Dict) →
    DeterminedIf 2 (say_reply_kinds.ps W L) (say_reply_kinds.r W L) (λ κs x. IsOk x) (say_reply.Post W L G d)
say_reply_determined W L G d κs a x y s₁ s₂ p q = said x y

pub say_refused_determined :
    (W : RattleType) (L : Laws W) (G : Ghosts W.Denot) (d : Dict) →
    DeterminedIf 2 (say_refused_kinds.ps W L) (say_refused_kinds.r W L) (λ κs x. IsOk x) (say_refused.Post W L G d)
say_refused_determined W L G d κs a x y s₁ s₂ p q = said x y

pub say_written_determined :
    (W : RattleType) (L : Laws W) (G : Ghosts W.Denot) (d : Dict) →
    DeterminedIf 2 (say_written_kinds.ps W L) (say_written_kinds.r W L) (λ κs x. IsOk x) (say_written.Post W L G d)
say_written_determined W L G d κs a x y s₁ s₂ p q = said x y

pub say_places_determined :
    (W : RattleType) (L : Laws W) (G : Ghosts W.Denot) (d : Dict) →
    DeterminedIf 2 (say_places_kinds.ps W L) (say_places_kinds.r W L) (λ κs x. IsOk x) (say_places.Post W L G d)
say_places_determined W L G d κs a x y s₁ s₂ p q = said x y

pub say_buffer_determined :
    (W : RattleType) (L : Laws W) (G : Ghosts W.Denot) (d : Dict) →
    DeterminedIf 3 (say_buffer_kinds.ps W L) (say_buffer_kinds.r W L) (λ κs x. IsOk x) (say_buffer.Post W L G d)
say_buffer_determined W L G d κs a x y s₁ s₂ p q = said x y
