-- Commands, card stores, hand backs and the calls of a restore leave every configuration as it was. Assumes nothing.
use Rattle.std.specs.Prelude.{Result, Ok, Err}
use Rattle.protocol.specs.declared.Refusal.{Refusal}
use mathlib.Core.Path.{◌≡◌, refl, ap, ◌∙◌}
use mathlib.Core.Bool.{true}
use mathlib.Core.List.{List}
use Prim.Native.Nat.{ℕ, ◌+◌, ◌≤◌}
use native.Mathlib.Omega.{arith}
use lib.Dec.{eqb}
use borrow.Author.Tests.{eqb-true, eqb-false}
use Rattle.theory.proofs.Tests.{by_cases, unless-cases, within_low}
use Rattle.wire.specs.Le.{le}
use Rattle.member.specs.declared.Member.{Member}
use Rattle.member.specs.Record.{member_size, holding_size, member_bytes}
use Rattle.card.specs.Layout.{member_bytes_at, configuration_at, configuration_size, generation_at, generation_size, holding_at, is_member, record_bytes, with_in_use, with_member, configuration_in, generation_in, with_holding, no_bytes}
use Rattle.card.proofs.RecordBytesLaws.{bytes-before, bytes_after, bytes-other}
use Rattle.card.proofs.HeaderLaws.{bytes-with-use}
use Rattle.protocol.specs.Answers.{EventAnswer}
use Rattle.events.specs.Events.{with_handed_back, hand_back as hand_back_of, store_in, store}
use Rattle.events.proofs.Cases.{if-done-cases, on-member-cases}
use Rattle.frame.specs.declared.Ask.{Ask}
use Rattle.frame.specs.declared.Ask.TheVariants.{QueryList, UseList, Read, Change}
use Rattle.admin.specs.Command.{perform, respond}
use Rattle.admin.proofs.Respond.{FactsIn, asked_of, card-cases}
use Rattle.staging.specs.Staging.{with_held_bytes, without_held, begin_of, feed_of, finish_of, drop_of}
use Rattle.staging.proofs.Refusals.{on-member-cases as restore-cases, on-open-cases}
use Rattle.demands.specs.Calls.{step}
use Rattle.demands.specs.Messages.{SameConfiguration, ConfigurationKept}

-- the same bytes between the member's and those of its holding place
pub same_bytes : (c d : List ℕ) (m : ℕ) → ((at n : ℕ) → configuration_at ≤ at → at + n ≤ holding_at → record_bytes d m at n ≡ record_bytes c m at n)
    → SameConfiguration c d m
unfolding configuration_in generation_in
same_bytes c d m f = record {
  configuration = f configuration_at configuration_size (omega arith) (omega arith);
  generation = ap le (f generation_at generation_size (omega arith) (omega arith));
}

pub kept : (c : List ℕ) (m : ℕ) → SameConfiguration c c m
kept c m = record { configuration = refl; generation = refl }

then-kept : (c d e : List ℕ) (m : ℕ) → SameConfiguration c d m → SameConfiguration d e m → SameConfiguration c e m
then-kept c d e m f g = record { configuration = g.configuration ∙ f.configuration; generation = g.generation ∙ f.generation }

-- ---- what is put at a member k; m is any ----

module _ (c : List ℕ) (m : ℕ) (low : 1 ≤ m) where
  use_kept : (mask : ℕ) → SameConfiguration c (with_in_use c mask) m
  use_kept mask = same_bytes c _ m (λ at n a b. bytes-with-use c mask m at n)

  module _ (k : ℕ) (l : 1 ≤ k) where
    member-kept : (x : Member) → SameConfiguration c (with_member c k x) m
    unfolding with_member
    member-kept x = same_bytes c _ m λ at n a b.
        by_cases (eqb m k)
        (λ t. rw (eqb-true m k t) (bytes_after c k member_bytes_at member_size (member_bytes x) at n (omega arith)))
        (λ t. bytes-other c k member_bytes_at member_size (member_bytes x) (omega arith) l m at n (omega arith) low (eqb-false m k t))

    holding-kept : (x : List ℕ) → SameConfiguration c (with_holding c k x) m
    unfolding with_holding
    holding-kept x = same_bytes c _ m λ at n a b.
        by_cases (eqb m k)
        (λ t. rw (eqb-true m k t) (bytes-before c k holding_at holding_size x at n (omega arith)))
        (λ t. bytes-other c k holding_at holding_size x (omega arith) l m at n (omega arith) low (eqb-false m k t))

module _ (c : List ℕ) (m : ℕ) (low : 1 ≤ m) (k : ℕ) (l : 1 ≤ k) where
  held_kept : (n : ℕ) (x : List ℕ) → SameConfiguration c (with_held_bytes c k n x) m
  unfolding with_held_bytes
  held_kept n x = then-kept c _ _ m (member-kept c m low k l _) (holding-kept _ m low k l x)

  gone-kept : SameConfiguration c (without_held c k) m
  unfolding without_held
  gone-kept = held_kept 0 no_bytes

-- ---- the calls ----

module _ (c : List ℕ) (m : ℕ) (h : is_member c m ≡ true) where
  low : 1 ≤ m
  low = within_low _ _ m h

  perform_kept : (r : List ℕ) (a : Result Ask Refusal) → FactsIn c r a → SameConfiguration c (perform c r a).card m
  unfolding perform
  perform_kept r (Err a) f = kept c m
  perform_kept r (Ok QueryList) f = kept c m
  perform_kept r (Ok (UseList mask)) f = use_kept c m low mask
  perform_kept r (Ok (Read k op)) f = kept c m
  perform_kept r (Ok (Change k op)) f = member-kept c m low k f.0.low _

  respond-kept : (r : List ℕ) (room : ℕ) → SameConfiguration c (respond c r room).0 m
  respond-kept r room = card-cases c r room (λ d. SameConfiguration c d m) (kept c m) (λ s. perform_kept r _ (asked_of c r))

  abbrev After : ℕ × List ℕ → Type 0
  After y = SameConfiguration c y.1 m

  abbrev AfterEvent : EventAnswer × List ℕ → Type 0
  AfterEvent y = SameConfiguration c y.1 m

  store_kept : (k t s : ℕ) (value : List ℕ) → SameConfiguration c (store c k t s value).1 m
  unfolding store store_in
  store_kept k t s value =
      on-member-cases c k _ AfterEvent (λ a d. kept c m) λ e i.
      if-done-cases AfterEvent _ _ c (λ d. kept c m) (λ d. member-kept c m low k (within_low _ _ k i) _)

  back-kept : (k : ℕ) → SameConfiguration c (hand_back_of c k).1 m
  unfolding hand_back_of with_handed_back
  back-kept k =
      on-member-cases c k _ AfterEvent (λ a d. kept c m) λ e i.
      let l = within_low _ _ k i in
      unless-cases AfterEvent _ _ _ (λ t. kept c m) (λ t. then-kept c _ _ m (member-kept c m low k l _) (holding-kept _ m low k l no_bytes))

  begin-kept : (k : ℕ) → SameConfiguration c (begin_of c k).1 m
  unfolding begin_of
  begin-kept k = restore-cases c k _ After (λ a. kept c m) λ p.
      unless-cases After _ _ _ (λ t. kept c m) (λ t. member-kept c m low k (within_low _ _ k p.member) _)

  feed-kept : (k : ℕ) (x : List ℕ) → SameConfiguration c (feed_of c k x).1 m
  unfolding feed_of
  feed-kept k x = on-open-cases c k _ After (λ a. kept c m) λ p.
      let l = within_low _ _ k p.member in
      unless-cases After _ _ _ (λ t. gone-kept c m low k l) (λ t. held_kept c m low k l _ _)

  finish-kept : (k id : ℕ) → SameConfiguration c (finish_of c k id).1 m
  unfolding finish_of
  finish-kept k id = on-open-cases c k _ After (λ a. kept c m) λ p.
      then-kept c _ _ m (respond-kept _ _) (gone-kept _ m low k (within_low _ _ k p.member))

  drop-kept : (k : ℕ) → SameConfiguration c (drop_of c k).1 m
  unfolding drop_of
  drop-kept k = on-open-cases c k _ After (λ a. kept c m) (λ p. gone-kept c m low k (within_low _ _ k p.member))

pub configuration-kept : ConfigurationKept
unfolding step
configuration-kept c m h = record {
  commands = respond-kept c m h;
  card_stores = store_kept c m h;
  hand_backs = back-kept c m h;
  begins = begin-kept c m h;
  feeds = feed-kept c m h;
  finishes = finish-kept c m h;
  drops = drop-kept c m h;
}
