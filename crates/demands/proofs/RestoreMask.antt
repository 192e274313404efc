-- What the calls of a restore in fragments do to the masked card of Mask.antt, for another member. Assumes nothing.
use mathlib.Core.Path.{◌≡◌, refl, ap, sym, ◌∙◌}
use mathlib.Core.Logic.{◌≢◌}
use mathlib.Core.Bool.{true}
use mathlib.Core.List.{List}
use Prim.Native.Nat.{ℕ, ◌+◌, ◌-◌, ◌≤◌}
use native.Mathlib.Omega.{arith}
use lib.Dec.{eqb, leb}
use lib.ListN.{length}
use borrow.Author.Tests.{ne_eqb}
use Rattle.theory.specs.Logic.{unless◌answer◌then◌}
use Rattle.theory.proofs.Tests.{by_cases, within_low}
use Rattle.wire.specs.Le.{number}
use Rattle.member.specs.declared.Member.{Member}
use Rattle.member.specs.Record.{holding_size}
use Rattle.member.specs.Member.{with_held}
use Rattle.card.specs.Layout.{holding_at, card_size, setup_of, is_member, member_in, with_member, is_marked, holding_in, with_holding, no_bytes}
use Rattle.card.specs.Sound.{is_sound}
use Rattle.card.proofs.MemberLaws.{length-with-member, setup-with-member, length-with-holding, setup-with-holding}
use Rattle.card.proofs.RecordLaws.{setup-with-record, record-other, record_apart}
use Rattle.card.proofs.SoundLaws.{member-small}
use Rattle.host.specs.Request.{set_parts}
use Rattle.reply.specs.Reply.{head_size}
use Rattle.admin.specs.Command.{respond}
use Rattle.staging.specs.Staging.{held_in, is_open, held_bytes, with_held_bytes, without_held, on_member, on_open, begin_of, feed_of, finish_of, drop_of}
use Rattle.staging.proofs.Refusals.{on-member-sound, on-open-sound}
use Rattle.staging.proofs.Places.{has, held-short}
use Rattle.demands.specs.Calls.{command, step}
use Rattle.demands.proofs.Sound.{stays-sound}
use Rattle.demands.proofs.Named.{names-set}
use Rattle.demands.proofs.Mask.{mask, mask-mask, swap-member, swap-holding, mask-member, is_whole, masked-sound, masked-mark}
use Rattle.demands.proofs.CommandMask.{respond-answers}

-- the same answer, and cards with the same mask
pub record Alike (m : ℕ) (x y : ℕ × List ℕ) : Type 0 where
  pub says : x.0 ≡ y.0
  pub cards : mask m x.1 ≡ mask m y.1

-- ---- the holding place of another member k ----

module _ (m : ℕ) (low : 1 ≤ m) (k : ℕ) (l : 1 ≤ k) (o : k ≢ m) where
  module _ (c : List ℕ) where
    member-unmasked : member_in (mask m c) k ≡ member_in c k
    member-unmasked = record-other c m _ 0 k low l o

    bytes-unmasked : holding_in (mask m c) k ≡ holding_in c k
    unfolding holding_in
    bytes-unmasked = record_apart c m _ 0 k holding_at holding_size (omega arith) low l o

    number-unmasked : held_in (mask m c) k ≡ held_in c k
    number-unmasked = ap (λ (x : Member). x.held) member-unmasked

  -- it is changed in the masked card alike
  module _ (c : List ℕ) (whole : length c ≡ card_size (setup_of c).members) where
    mask-held : (n : ℕ) (x : List ℕ) → mask m (with_held_bytes (mask m c) k n x) ≡ mask m (with_held_bytes c k n x)
    unfolding with_held_bytes
    mask-held n x =
        let y = with_held (member_in c k) n in
        ap (mask m) (rw (member-unmasked c, swap-member m low c k y l o) (swap-holding m low (with_member c k y) k x l o))
        ∙ mask-mask m low (with_holding (with_member c k y) k x)
        (rw (length-with-holding, length-with-member, setup-with-holding, setup-with-member) whole)

    mask-gone : mask m (without_held (mask m c) k) ≡ mask m (without_held c k)
    unfolding without_held
    mask-gone = mask-held 0 no_bytes

-- ---- the calls ----

module _ (m : ℕ) (low : 1 ≤ m) (c : List ℕ) (e : is_sound c ≡ true) (k : ℕ) (o : k ≢ m) where
  whole : length c ≡ card_size (setup_of c).members
  whole = is_whole m low c e

  masked : is_sound (mask m c) ≡ true
  masked = masked-sound m low c e

  unchanged : (n : ℕ) → Alike m (n, mask m c) (n, c)
  unchanged n = record { says = refl; cards = mask-mask m low c whole }

  on-member-alike : (x y : ℕ × List ℕ) → (is_member c k ≡ true → Alike m x y) → Alike m (on_member (mask m c) k x) (on_member c k y)
  unfolding unless◌answer◌then◌
  on-member-alike x y f =
      rw (on-member-sound (mask m c) k x masked, on-member-sound c k y e, setup-with-record, masked-mark m low c e k)
      (by_cases (is_member c k)
      (λ t. rw t (by_cases (is_marked c k) (λ u. rw u (unchanged _)) (λ u. rw u (f t))))
      (λ t. rw t (unchanged _)))

  on-open-alike : (x y : ℕ × List ℕ) → (is_member c k ≡ true → Alike m x y) → Alike m (on_open (mask m c) k x) (on_open c k y)
  unfolding unless◌answer◌then◌
  on-open-alike x y f =
      rw (on-open-sound (mask m c) k x masked, on-open-sound c k y e, setup-with-record, masked-mark m low c e k)
      (by_cases (is_member c k)
      (λ t. rw (t, number-unmasked m low k (within_low _ _ k t) o c)
      (by_cases (is_marked c k) (λ v. rw v (unchanged _)) λ v. rw v
      (by_cases (is_open c k) (λ u. rw u (f t)) (λ u. rw u (unchanged _)))))
      (λ t. rw t (unchanged _)))

  pub begin-alike : Alike m (begin_of (mask m c) k) (begin_of c k)
  unfolding begin_of unless◌answer◌then◌
  begin-alike = on-member-alike _ _ λ h.
      let l = within_low _ _ k h in
      rw (number-unmasked m low k l o c, member-unmasked m low k l o c)
      (by_cases (eqb (held_in c k) 0)
      (λ t. rw t (record { says = refl; cards = mask-member m low c whole k _ l o }))
      (λ t. rw t (unchanged _)))

  pub feed-alike : (x : List ℕ) → Alike m (feed_of (mask m c) k x) (feed_of c k x)
  unfolding feed_of unless◌answer◌then◌
  feed-alike x = on-open-alike _ _ λ h.
      let l = within_low _ _ k h in
      rw (number-unmasked m low k l o c, bytes-unmasked m low k l o c)
      (by_cases (leb (held_in c k - 1 + length x) holding_size)
      (λ t. rw t (record { says = refl; cards = mask-held m low k l o c whole _ _ }))
      (λ t. rw t (record { says = refl; cards = mask-gone m low k l o c whole })))

  pub drop-alike : Alike m (drop_of (mask m c) k) (drop_of c k)
  unfolding drop_of
  drop-alike = on-open-alike _ _ λ h. record { says = refl; cards = mask-gone m low k (within_low _ _ k h) o c whole }

  -- the command that a finish is leaves a sound card
  whole-after : (d : List ℕ) → is_sound d ≡ true → (r : List ℕ)
      → length (respond d r head_size).0 ≡ card_size (setup_of (respond d r head_size).0).members
  unfolding step
  whole-after d f r = is_whole m low _ (stays-sound d (command r head_size) f)

  pub finish-alike : (id : ℕ) → Alike m (finish_of (mask m c) k id) (finish_of c k id)
  unfolding finish_of
  finish-alike id = on-open-alike _ _ λ h.
      let l = within_low _ _ k h in
      let r = set_parts k id (held_bytes c k) in
      let n = names-set m k id (held_bytes c k) (member-small c k e h) (held-short c k (has c k e h)) head_size ∙ ne_eqb k m o in
      let z = respond-answers m low c e r head_size n in
      rw (number-unmasked m low k l o c, bytes-unmasked m low k l o c)
      (record {
        says = ap (number 0 4) z.0;
        cards =
            sym (mask-gone m low k l o _ (whole-after (mask m c) masked r))
            ∙ ap (λ d. mask m (without_held d k)) z.1
            ∙ mask-gone m low k l o _ (whole-after c e r);
      })
