-- The calls of a restore in fragments change nothing of their member but its holding place, and end it. Assumes nothing.
use mathlib.Core.Path.{◌≡◌, refl, ap, sym, ◌∙◌}
use mathlib.Core.Bool.{true, false}
use mathlib.Core.List.{List}
use Prim.Native.Nat.{ℕ, ◌+◌, ◌≤◌}
use native.Mathlib.Omega.{arith}
use lib.ListN.{length}
use borrow.Author.Tests.{leb-true, ltb-false}
use Rattle.theory.specs.Logic.{unless◌answer◌then◌}
use Rattle.theory.proofs.Tests.{by_cases, unless-cases}
use Rattle.wire.specs.Le.{le}
use Rattle.member.specs.declared.Member.{Member}
use Rattle.member.specs.Record.{member_size, holding_size, member_bytes}
use Rattle.member.specs.Member.{with_held}
use Rattle.card.specs.Layout.{member_bytes_at, configuration_at, configuration_size, generation_at, generation_size, holding_at, is_member, member_in, with_member, is_marked, record_bytes, configuration_in, generation_in, with_holding, no_bytes}
use Rattle.card.specs.Sound.{is_sound}
use Rattle.card.proofs.RecordBytesLaws.{bytes-before, bytes_after}
use Rattle.card.proofs.MarkLaws.{marked-is}
use Rattle.card.proofs.SoundLaws.{sound-of, sound-member-in}
use Rattle.host.specs.Request.{set_parts}
use Rattle.admin.specs.Command.{respond}
use Rattle.admin.proofs.Marks.{respond-mark}
use Rattle.staging.specs.Staging.{held_in, is_open, held_bytes, with_held_bytes, without_held, on_open, begin_of, feed_of, finish_of, drop_of}
use Rattle.staging.proofs.Refusals.{on-open, on-open-marked, on-open-sound, on-member-cases, on-open-cases}
use Rattle.staging.proofs.Places.{open-unmarked, number_put, held_number, few-fed}
use Rattle.staging.proofs.Kept.{respond-setup}
use Rattle.demands.specs.Calls.{command, answered, refused, step, restore_finish}
use Rattle.demands.specs.Claims.{after_refusal}
use Rattle.demands.specs.Holding.{SameButHolding, OnlyHolding}
use Rattle.demands.proofs.Sound.{stays-sound}
use Rattle.demands.proofs.Refusals.{refusals-change-nothing}

-- ---- another number of bytes held, and other bytes behind the member ----

unchanged : (c : List ℕ) (m : ℕ) → SameButHolding c c m
unchanged c m = record { mode = refl; mark = refl; queues = refl; objects = refl; values = refl; configuration = refl; generation = refl }

-- a member that differs in the number alone, with the same bytes up to the holding place
module _ (c d : List ℕ) (m n : ℕ) where
  same-but : member_in d m ≡ with_held (member_in c m) n
      → ((at k : ℕ) → member_size ≤ at → at + k ≤ holding_at → record_bytes d m at k ≡ record_bytes c m at k)
      → SameButHolding c d m
  unfolding configuration_in generation_in
  same-but e f = record {
    mode = ap (λ (x : Member). x.mode) e;
    mark = ap (λ (x : Member). x.marked) e;
    queues = ap (λ (x : Member). x.queues) e;
    objects = ap (λ (x : Member). x.objects) e;
    values = ap (λ (x : Member). x.values) e;
    configuration = f configuration_at configuration_size (omega arith) (omega arith);
    generation = ap le (f generation_at generation_size (omega arith) (omega arith));
  }

bytes-kept : (c : List ℕ) (m : ℕ) (y : Member) (at k : ℕ) → member_size ≤ at → record_bytes (with_member c m y) m at k ≡ record_bytes c m at k
unfolding with_member
bytes-kept c m y at k l = bytes_after c m member_bytes_at member_size (member_bytes y) at k l

module _ (c : List ℕ) (m : ℕ) (s : is_sound c ≡ true) (h : is_member c m ≡ true) (u : is_marked c m ≡ false) (n : ℕ) (few : n ≤ 1 + holding_size) where
  number_same : SameButHolding c (with_member c m (with_held (member_in c m) n)) m
  number_same = same-but c _ m n (number_put c m s h u n few) (λ at k l e. bytes-kept c m _ at k l)

  held_same : (x : List ℕ) → SameButHolding c (with_held_bytes c m n x) m
  unfolding with_held_bytes with_holding
  held_same x =
      same-but c _ m n (held_number c m s h u n few x) λ at k l e.
      bytes-before _ m holding_at holding_size x at k e ∙ bytes-kept c m _ at k l

module _ (c : List ℕ) (m : ℕ) (s : is_sound c ≡ true) (h : is_member c m ≡ true) (u : is_marked c m ≡ false) where
  gone_same : SameButHolding c (without_held c m) m
  unfolding without_held
  gone_same = held_same c m s h u 0 (omega arith) no_bytes

  pub gone-ended : (member_in (without_held c m) m).held ≡ 0
  unfolding without_held
  gone-ended = ap (λ (x : Member). x.held) (held_number c m s h u 0 (omega arith) no_bytes)

-- ---- the calls ----

Same : List ℕ → ℕ → ℕ × List ℕ → Type 0
Same c m y = SameButHolding c y.1 m

begins : (c : List ℕ) (m : ℕ) → Same c m (begin_of c m)
unfolding begin_of Same
begins c m =
    on-member-cases c m _ (Same c m) (λ a. unchanged c m) λ p.
    unless-cases (Same c m) _ _ _ (λ t. unchanged c m) (λ t. number_same c m p.sound p.member p.unmarked 1 (omega arith))

feeds : (c : List ℕ) (m : ℕ) (x : List ℕ) → Same c m (feed_of c m x)
unfolding feed_of Same
feeds c m x =
    on-open-cases c m _ (Same c m) (λ a. unchanged c m) λ p.
    unless-cases (Same c m) _ _ _ (λ t. gone_same c m p.sound p.member p.unmarked)
    (λ t. held_same c m p.sound p.member p.unmarked _ (few-fed (held_in c m) (length x) (leb-true _ _ t)) _)

drops : (c : List ℕ) (m : ℕ) → Same c m (drop_of c m)
unfolding drop_of Same
drops c m = on-open-cases c m _ (Same c m) (λ a. unchanged c m) (λ p. gone_same c m p.sound p.member p.unmarked)

-- the command that finish is leaves a sound card, of the same members and marks
module _ (c : List ℕ) (m id : ℕ) (s : is_sound c ≡ true) (h : is_member c m ≡ true) where
  abbrev sent : List ℕ
  sent = set_parts m id (held_bytes c m)

  abbrev after : List ℕ
  after = (respond c sent 8).0

  sound-after : is_sound after ≡ true
  unfolding step
  sound-after = stays-sound c (command sent 8) s

  member-after : is_member after m ≡ true
  member-after = rw (respond-setup c sent 8) h

  unmarked-after : is_marked c m ≡ false → is_marked after m ≡ false
  unmarked-after u = respond-mark c sent 8 m ∙ u

  finishes : is_open c m ≡ true → Same after m (finish_of c m id)
  unfolding finish_of Same
  finishes o =
      let u = open-unmarked c m s h o in
      rw (on-open c m _ s h u o) (gone_same after m sound-after member-after (unmarked-after u))

pub only-holding : OnlyHolding
unfolding step Same after_refusal
only-holding = record {
  begins = begins;
  feeds = feeds;
  drops = drops;
  refused_finishes = λ c m id e. rw (refusals-change-nothing c (restore_finish m id) e) (drops c m);
  finishes = finishes;
}

-- ---- a holding place that is ended ----

module _ (c : List ℕ) (m : ℕ) (s : is_sound c ≡ true) (h : is_member c m ≡ true) where
  marked-none : is_marked c m ≡ true → held_in c m ≡ 0
  marked-none t = ((sound-member-in c (sound-of c s) m h).mark (sym (marked-is c m h) ∙ t)).no_place

  -- refused for want of one, or for the mark, there is none
  closes : (next : ℕ × List ℕ) (P : ℕ × List ℕ → Type 0) → ((a : ℕ) → held_in c m ≡ 0 → P (a, c))
      → (is_marked c m ≡ false → P next) → P (on_open c m next)
  unfolding unless◌answer◌then◌
  closes next P f g =
      by_cases (is_marked c m) (λ t. rw (on-open-marked c m next s h t) (f _ (marked-none t))) λ u.
      by_cases (is_open c m) (λ o. rw (on-open c m next s h u o) (g u)) λ o.
      rw (on-open-sound c m next s, h, u, o) (f _ (omega (arith, ltb-false 0 (held_in c m) o)))

  pub finish-ends : (id : ℕ) → held_in (finish_of c m id).1 m ≡ 0
  unfolding finish_of
  finish-ends id =
      closes _ (λ (y : ℕ × List ℕ). held_in y.1 m ≡ 0) (λ a e. e) λ u.
      gone-ended _ m (sound-after c m id s h) (member-after c m id s h) (unmarked-after c m id s h u)

  pub drop-ends : held_in (drop_of c m).1 m ≡ 0
  unfolding drop_of
  drop-ends = closes _ (λ (y : ℕ × List ℕ). held_in y.1 m ≡ 0) (λ a e. e) (gone-ended c m s h)

  pub feed-ends : (x : List ℕ) → refused (answered (feed_of c m x).0) ≡ true → held_in (feed_of c m x).1 m ≡ 0
  unfolding feed_of refused
  feed-ends x =
      let P : ℕ × List ℕ → Type 0 = λ y. refused (answered y.0) ≡ true → held_in y.1 m ≡ 0 in
      closes _ P (λ a z e. z) (λ u. unless-cases P _ _ _ (λ t e. gone-ended c m s h u) (λ t e. cc))
