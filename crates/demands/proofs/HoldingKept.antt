-- Commands and card stores leave every holding place as it was. Assumes nothing.
use Rattle.std.specs.Prelude.{Result, Ok, Err}
use Rattle.protocol.specs.declared.Refusal.{Refusal}
use mathlib.Core.Path.{◌≡◌, refl, ap, ◌∙◌}
use mathlib.Core.Logic.{◌≢◌}
use mathlib.Core.Bool.{true}
use mathlib.Core.List.{List}
use Prim.Native.Nat.{ℕ, ◌≤◌}
use native.Mathlib.Omega.{arith}
use lib.Dec.{eqb}
use borrow.Author.Tests.{eqb-true, eqb-false}
use Rattle.theory.proofs.Tests.{by_cases, within_low}
use Rattle.protocol.specs.declared.ChangeOp.{ChangeOp}
use Rattle.protocol.specs.Answers.{EventAnswer}
use Rattle.member.specs.declared.Member.{Member}
use Rattle.member.specs.Record.{member_size, holding_size, member_of, member_bytes}
use Rattle.member.specs.Objects.{with_object}
use Rattle.values.proofs.Kept.{done-allowed}
use Rattle.member.proofs.Sound.{sound-part}
use Rattle.changes.specs.Changes.{member_after, change_of}
use Rattle.changes.proofs.Kept.{change-cases, change-sound}
use Rattle.card.specs.Layout.{member_bytes_at, holding_at, setup_of, is_member, member_in, with_member, holding_in, with_in_use}
use Rattle.card.proofs.RecordBytesLaws.{bytes-other}
use Rattle.card.proofs.HeaderLaws.{bytes-with-use}
use Rattle.card.proofs.MemberLaws.{member-same, holding-with-member}
use Rattle.card.proofs.SoundLaws.{Sound, SoundIn, sound-of, sound-has, sound-member-in}
use Rattle.events.specs.Events.{store_in, store}
use Rattle.events.proofs.Cases.{if-done-cases, on-member-cases}
use Rattle.frame.specs.declared.Ask.{Ask}
use Rattle.frame.specs.declared.Ask.TheVariants.{QueryList, UseList, Read, Change}
use Rattle.admin.specs.Command.{perform}
use Rattle.admin.proofs.Respond.{FactsIn, asked_of, card-cases}
use Rattle.admin.proofs.Marks.{named_here, named-unmarked}
use Rattle.demands.specs.Calls.{step}
use Rattle.demands.specs.Holding.{SameHolding, HoldingKept}

-- no change of a member touches what is held
change-held : (gets sets : ℕ) (list : List ℕ) (op : ChangeOp) (m : Member) → (member_after m (change_of gets sets list op m)).held ≡ m.held
unfolding with_object
change-held gets sets list op m =
    change-cases gets sets m (λ x. (member_after m x).held ≡ m.held) (λ a. refl) list op
    (λ id slot p e. refl) (λ id. refl) (λ mode. refl) (λ e. refl)

-- m is any member of the card
module _ (c : List ℕ) (m : ℕ) (h : is_member c m ≡ true) where
  kept : SameHolding c c m
  kept = record { held = refl; bytes = refl }

  low : 1 ≤ m
  low = within_low _ _ m h

  use_kept : (mask : ℕ) → SameHolding c (with_in_use c mask) m
  unfolding member_in holding_in
  use_kept mask = record {
    held = ap (λ b. (member_of b).held) (bytes-with-use c mask m member_bytes_at member_size);
    bytes = bytes-with-use c mask m holding_at holding_size;
  }

  -- a sound member with the same number of bytes held is put at k
  module _ (s : Sound c) (k : ℕ) (i : is_member c k ≡ true) (y : Member) (f : SoundIn c y) (e : y.held ≡ (member_in c k).held) where
    own-kept : m ≡ k → SameHolding c (with_member c k y) m
    own-kept q = rw q (record {
      held = ap (λ (x : Member). x.held) (member-same c k y (sound-has c s k i) f.shaped) ∙ e;
      bytes = holding-with-member c k y;
    })

    other-kept : m ≢ k → SameHolding c (with_member c k y) m
    unfolding with_member member_in holding_in
    other-kept n =
        let l = within_low _ _ k i in
        record {
          held = ap (λ b. (member_of b).held) (bytes-other c k member_bytes_at member_size (member_bytes y) (omega arith) l m member_bytes_at member_size (omega arith) low n);
          bytes = bytes-other c k member_bytes_at member_size (member_bytes y) (omega arith) l m holding_at holding_size (omega arith) low n;
        }

    member-kept : SameHolding c (with_member c k y) m
    member-kept = by_cases (eqb m k) (λ t. own-kept (eqb-true m k t)) (λ t. other-kept (eqb-false m k t))

  perform_kept : Sound c → (r : List ℕ) (a : Result Ask Refusal) → FactsIn c r a → SameHolding c (perform c r a).card m
  unfolding perform
  perform_kept s r (Err a) f = kept
  perform_kept s r (Ok QueryList) f = kept
  perform_kept s r (Ok (UseList mask)) f = use_kept mask
  perform_kept s r (Ok (Read k op)) f = kept
  perform_kept s r (Ok (Change k op)) f =
      let i = named_here c r k f.0 in
      let x = sound-member-in c s k i in
      member-kept s k i _ (change-sound _ _ _ op (member_in c k) _ f.1 (named-unmarked c r k f.0) x)
      (change-held (setup_of c).gets (setup_of c).sets _ op (member_in c k))

  store_kept : Sound c → (k t s : ℕ) (value : List ℕ) → is_member c k ≡ true → SameHolding c (store_in c k t s value).1 m
  unfolding store_in
  store_kept s k t n value i =
      if-done-cases (λ (y : EventAnswer × List ℕ). SameHolding c y.1 m) _ _ c (λ d. kept)
      (λ d. member-kept s k i _ (sound-part _ _ _ _ (sound-member-in c s k i) t n value (done-allowed _ t n value d)) refl)

pub holding-kept : HoldingKept
unfolding step store
holding-kept = record {
  commands = λ c m h r room. card-cases c r room (λ d. SameHolding c d m) (kept c m h) (λ s. perform_kept c m h (sound-of c s) r _ (asked_of c r));
  card_stores = λ c m h k t n value.
      on-member-cases c k _ (λ (y : EventAnswer × List ℕ). SameHolding c y.1 m) (λ a d. kept c m h) (λ s i. store_kept c m h (sound-of c s) k t _ value i);
}
