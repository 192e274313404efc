-- A command, as its steps: what is here is all that the other proofs use of the definition of `respond`. Assumes nothing.
use Rattle.std.specs.Prelude.{Result, is_ok}
use mathlib.Core.Path.{◌≡◌, refl}
use mathlib.Core.Bool.{true, false}
use mathlib.Core.List.{List, []}
use Prim.Native.Nat.{ℕ, ◌+◌, ◌≤◌}
use lib.Dec.{leb}
use lib.ListN.{length}
use borrow.Author.Tests.{leb-true, le-leb}
use Rattle.theory.specs.Logic.{when◌then◌else◌, unless◌answer◌then◌, ◌and◌}
use Rattle.theory.proofs.Tests.{both, if-cases, unless-cases}
use Rattle.protocol.specs.declared.Refusal.{Refusal}
use Rattle.protocol.specs.Answers.{Answer}
use Rattle.card.specs.Layout.{setup_of, in_use_of, is_marked}
use Rattle.card.specs.Sound.{is_sound}
use Rattle.frame.specs.declared.Ask.{Ask}
use Rattle.frame.specs.Frame.{target_of}
use Rattle.frame.proofs.Asked.{Named, Facts, asked}
use Rattle.reply.specs.Reply.{final_of, reply_of, replied}
use Rattle.admin.specs.Command.{ask_in, Effect, perform, conclude, respond}

-- what is known of a request by what it asks of a card
abbrev pub NamedIn : List ℕ → List ℕ → ℕ → Type 0
NamedIn c r m = Named (setup_of c).members (is_marked c (target_of r)) r m

abbrev pub FactsIn : List ℕ → List ℕ → Result Ask Refusal → Type 0
FactsIn c r a = Facts (setup_of c).members ((setup_of c).gets + (setup_of c).sets) (is_marked c (target_of r)) r a

pub asked_of : (c r : List ℕ) → FactsIn c r (ask_in c r)
unfolding ask_in
asked_of c r = asked _ _ _ r (in_use_of c) _ refl

-- steps 11 and 12: the answer in the end, the card after and the reply
abbrev pub last_answer : ℕ → Effect → Answer
last_answer room e = final_of e.outcome (length e.result) room

abbrev pub ended : List ℕ → ℕ → Effect → List ℕ × List ℕ
ended c room e = (when is_ok (last_answer room e) then e.card else c, reply_of (last_answer room e) e.result)

module _ (c r : List ℕ) (room : ℕ) where
  -- step 1
  pub respond-none : leb 8 room and is_sound c ≡ false → respond c r room ≡ (c, [])
  unfolding respond unless◌answer◌then◌
  respond-none t = rw t

  pub respond-is : 8 ≤ room → is_sound c ≡ true → respond c r room ≡ ended c room (perform c r (ask_in c r))
  unfolding respond conclude replied unless◌answer◌then◌ ◌and◌
  respond-is h s = rw (le-leb 8 room h, s)

  pub respond-cases : (P : List ℕ × List ℕ → Type 0) → P (c, [])
      → (8 ≤ room → is_sound c ≡ true → P (ended c room (perform c r (ask_in c r)))) → P (respond c r room)
  unfolding respond conclude replied
  respond-cases P f g = unless-cases P _ _ _ (λ t. f) (λ t. g (leb-true 8 room (both _ _ t).0) (both _ _ t).1)

  -- the card after it
  pub card-cases : (P : List ℕ → Type 0) → P c → (is_sound c ≡ true → P (perform c r (ask_in c r)).card) → P (respond c r room).0
  card-cases P f g =
      let e = perform c r (ask_in c r) in
      respond-cases (λ (y : List ℕ × List ℕ). P y.0) f
      (λ h s. if-cases P (is_ok (last_answer room e)) e.card c (λ t. g s) (λ t. f))
