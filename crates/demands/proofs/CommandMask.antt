-- What a command that does not name m does to the masked card of Mask.antt. Assumes nothing.
use Rattle.std.specs.Prelude.{Result, Ok, Err, is_ok}
use Rattle.protocol.specs.declared.Refusal.{Refusal}
use mathlib.Core.Path.{◌≡◌, refl, sym, ◌∙◌}
use mathlib.Core.Logic.{◌≢◌}
use mathlib.Core.Bool.{true, false}
use mathlib.Core.List.{List}
use Prim.Native.Nat.{ℕ, ◌≤◌}
use lib.Dec.{leb}
use lib.ListN.{length}
use borrow.Author.Tests.{eqb-false, leb-true}
use Rattle.theory.specs.Logic.{when◌then◌else◌, ◌and◌}
use Rattle.theory.proofs.Tests.{by_cases, and-true}
use Rattle.card.specs.Layout.{card_size, setup_of, member_in}
use Rattle.card.specs.Sound.{is_sound}
use Rattle.card.proofs.RecordLaws.{setup-with-record, record-other}
use Rattle.frame.specs.declared.Ask.{Ask}
use Rattle.frame.specs.declared.Ask.TheVariants.{QueryList, UseList, Read, Change}
use Rattle.admin.specs.Command.{Effect, perform, respond}
use Rattle.demands.specs.Calls.{command, names}
use Rattle.admin.proofs.Respond.{NamedIn, FactsIn, asked_of, last_answer, ended, respond-none, respond-is}
use Rattle.demands.proofs.Named.{names-is}
use Rattle.demands.proofs.Mask.{mask, mask-mask, mask-member, mask-use, is_whole, masked-sound, masked-ask}

-- an effect on the masked card and one on the card
record Alike (m : ℕ) (e f : Effect) : Type 0 where
  outcomes : e.outcome ≡ f.outcome
  results : e.result ≡ f.result
  cards : mask m e.card ≡ mask m f.card

module _ (m : ℕ) (low : 1 ≤ m) (c : List ℕ) (s : is_sound c ≡ true) (r : List ℕ) (room : ℕ) where
  abbrev whole : length c ≡ card_size (setup_of c).members
  whole = is_whole m low c s

  module _ (n : names m (command r room) ≡ false) where
    -- the member that it is for, and its record in the masked card
    module _ (k : ℕ) (f : NamedIn c r k) where
      another : k ≢ m
      another = eqb-false k m (sym (names-is m r room _ _ k f) ∙ n)

      unmasked : member_in (mask m c) k ≡ member_in c k
      unmasked = record-other c m _ 0 k low f.low another

    perform-alike : (a : Result Ask Refusal) → FactsIn c r a → Alike m (perform (mask m c) r a) (perform c r a)
    unfolding perform
    perform-alike (Err a) f = record { outcomes = refl; results = refl; cards = mask-mask m low c whole }
    perform-alike (Ok QueryList) f = record { outcomes = refl; results = refl; cards = mask-mask m low c whole }
    perform-alike (Ok (UseList u)) f = record { outcomes = refl; results = refl; cards = mask-use m low c whole u }
    perform-alike (Ok (Read k op)) f =
        rw (unmasked k f.0) (record { outcomes = refl; results = refl; cards = mask-mask m low c whole })
    perform-alike (Ok (Change k op)) f =
        rw (setup-with-record, unmasked k f.0)
        (record { outcomes = refl; results = refl; cards = mask-member m low c whole k _ f.0.low (another k f.0) })

  -- steps 11 and 12 choose between two cards with the same mask
  ended-alike : (e f : Effect) → Alike m e f
      → ((ended (mask m c) room e).1 ≡ (ended c room f).1) × (mask m (ended (mask m c) room e).0 ≡ mask m (ended c room f).0)
  unfolding when◌then◌else◌
  ended-alike e f h =
      rw (h.outcomes, h.results)
      (refl, by_cases (is_ok (last_answer room f)) (λ t. rw t h.cards) (λ t. rw t (mask-mask m low c whole)))

  pub respond-answers : names m (command r room) ≡ false
      → ((respond (mask m c) r room).1 ≡ (respond c r room).1) × (mask m (respond (mask m c) r room).0 ≡ mask m (respond c r room).0)
  respond-answers n =
      let z = masked-sound m low c s in
      by_cases (leb 8 room)
      (λ t.
      let h = leb-true 8 room t in
      rw (respond-is (mask m c) r room h z, respond-is c r room h s, masked-ask m low c s r)
      (ended-alike _ _ (perform-alike n _ (asked_of c r))))
      (λ t.
      let g : leb 8 room and is_sound (mask m c) ≡ false = rw (z, and-true) t in
      let f : leb 8 room and is_sound c ≡ false = rw (s, and-true) t in
      rw (respond-none (mask m c) r room g, respond-none c r room f) (refl, mask-mask m low c whole))
