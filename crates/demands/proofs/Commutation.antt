-- Calls that name different members can change places: each is hidden by the mask of its own member and not by the other's, and
-- the two masks together leave nothing of the card out. Assumes nothing.
use mathlib.Core.Path.{◌≡◌, refl, ap, sym, ◌∙◌}
use mathlib.Core.Logic.{◌≢◌}
use mathlib.Core.Bool.{true, false}
use mathlib.Core.List.{List}
use Prim.Native.Nat.{ℕ, ◌≤◌}
use native.Mathlib.Omega.{arith}
use lib.Dec.{eqb}
use borrow.Author.Tests.{eqb-true, eqb-false, ne_eqb}
use Rattle.theory.proofs.Tests.{by_cases, both, and-false, below}
use Rattle.theory.proofs.Commuting.{Commute, commute-sym, swappable, after-hidden, commute-by-masks}
use Rattle.card.specs.Layout.{record_size, setup_of, is_member, record_bytes, with_record_bytes}
use Rattle.card.specs.Sound.{is_sound}
use Rattle.card.proofs.RecordBytesLaws.{bytes_back, bytes-long, bytes-over}
use Rattle.card.proofs.RecordLaws.{record-bytes, record_apart, setup-with-record}
use Rattle.card.proofs.SoundLaws.{sound-of, sound-has}
use Rattle.frame.specs.Frame.{target_of}
use Rattle.demands.specs.Calls.{Call, command, hand_back, wipe, card_reset, card_store, restore_begin, restore_feed, restore_finish, restore_drop, message, step, names}
use Rattle.message.specs.Access.{whole_of, speaks_for}
use Rattle.message.proofs.Cases.{speaks-one}
use Rattle.demands.specs.Commutation.{Commutation, CommandsCommute}
use Rattle.demands.proofs.Refusals.{unsound-stays}
use Rattle.demands.proofs.Named.{leaves_none, named-leaves}
use Rattle.demands.proofs.Mask.{mask, is_whole, mask-none}
use Rattle.demands.proofs.Isolation.{masking}

-- a call names one member at most
names-one : (m k : ℕ) → m ≢ k → (x : Call) → names m x ≡ true → names k x ≡ false
unfolding names
names-one m k n (command r room) e = rw (eqb-true (target_of r) m (both _ _ e).1, ne_eqb m k n) (and-false _)
names-one m k n (hand_back j) e = refl
names-one m k n (wipe j g) e = refl
names-one m k n (card_reset g) e = refl
names-one m k n (card_store j t s value) e = rw (eqb-true j m e) (ne_eqb m k n)
names-one m k n (restore_begin j) e = rw (eqb-true j m e) (ne_eqb m k n)
names-one m k n (restore_feed j x) e = rw (eqb-true j m e) (ne_eqb m k n)
names-one m k n (restore_finish j id) e = rw (eqb-true j m e) (ne_eqb m k n)
names-one m k n (restore_drop j) e = rw (eqb-true j m e) (ne_eqb m k n)
names-one m k n (message x room) e = by_cases (speaks_for k (whole_of x)) (λ f. absurd (n (speaks-one (whole_of x) m k e f))) (λ f. f)

-- ---- two members ----

module _ (m k : ℕ) (m-low : 1 ≤ m) (k-low : 1 ≤ k) (apart : m ≢ k) where
  -- m's record is in the card with k's masked
  record-there : (c : List ℕ) → record_bytes (mask k c) m 0 record_size ≡ record_bytes c m 0 record_size
  record-there c = record_apart c k _ 0 m 0 record_size (omega arith) k-low m-low apart

  -- and makes the card of the one with m's masked
  rebuilt : (c : List ℕ) → is_sound c ≡ true → is_member c m ≡ true
      → with_record_bytes (mask m c) m 0 record_size (record_bytes c m 0 record_size) ≡ c
  rebuilt c s h =
      rw (record-bytes c m _ 0)
      (bytes-over c m 0 record_size _ 0 record_size _ (omega arith) (omega arith)
      (bytes-long c m 0 record_size (sound-has c (sound-of c s) m h) (omega arith))
      ∙ bytes_back c m 0 record_size)

  determined : (a b : List ℕ) → is_sound a ≡ true → is_sound b ≡ true → mask m a ≡ mask m b → mask k a ≡ mask k b → a ≡ b
  determined a b sa sb e f =
      let same : record_bytes a m 0 record_size ≡ record_bytes b m 0 record_size =
      sym (record-there a) ∙ ap (λ c. record_bytes c m 0 record_size) f ∙ record-there b in
      let setups : setup_of a ≡ setup_of b = sym (setup-with-record a m _ 0) ∙ ap setup_of e ∙ setup-with-record b m _ 0 in
      by_cases (is_member a m)
      (λ h. sym (rebuilt a sa h) ∙ rw (e, same) (rebuilt b sb (rw setups at h)))
      (λ h. sym (mask-none m m-low a (is_whole m m-low a sa) h) ∙ e ∙ mask-none m m-low b (is_whole m m-low b sb) (rw setups at h))

-- ---- any two numbers ----

module _ (m k : ℕ) (apart : m ≢ k) (x y : Call) (nx : names m x ≡ true) (ny : names k y ≡ true) where
  x-other : names k x ≡ false
  x-other = names-one m k apart x nx

  y-other : names m y ≡ false
  y-other = names-one k m (λ e. apart (sym e)) y ny

  -- a call that names 0 changes nothing, whatever came before it
  idle : (c : List ℕ) → m ≡ 0 → (step c x).0 ≡ c
  idle c e = leaves_none m c _ (rw e (below 1 _ 0 (omega arith))) (named-leaves m c x nx)

  commute-idle : (c : List ℕ) → is_sound c ≡ true → m ≡ 0 → 1 ≤ k → Commute step c x y
  commute-idle c s e low = record {
    states = idle _ e ∙ ap (λ d. (step d y).0) (sym (idle c e));
    first = after-hidden (masking k low) c y x s ny x-other;
    second = ap (λ d. (step d y).1) (idle c e);
  }

  commute-members : (c : List ℕ) → is_sound c ≡ true → 1 ≤ m → 1 ≤ k → Commute step c x y
  commute-members c s l h = commute-by-masks (masking m l) (masking k h) (determined m k l h apart) c x y s nx x-other y-other ny

-- a number other than 0 is a member's
low : (n : ℕ) → n ≢ 0 → 1 ≤ n
low n h = omega arith

commute-sound : (m k : ℕ) → m ≢ k → (x y : Call) → names m x ≡ true → names k y ≡ true
    → (c : List ℕ) → is_sound c ≡ true → Commute step c x y
commute-sound m k apart x y nx ny c s =
    by_cases (eqb m 0)
    (λ e. let z = eqb-true m 0 e in commute-idle m k apart x y nx ny c s z (low k (λ q. apart (z ∙ sym q))))
    (λ e. let l = low m (eqb-false m 0 e) in
    by_cases (eqb k 0)
    (λ f. commute-sym c y x (commute-idle k m (λ q. apart (sym q)) y x ny nx c s (eqb-true k 0 f) l))
    (λ f. commute-members m k apart x y nx ny c s l (low k (eqb-false k 0 f))))

-- a card that is not sound stays as it is
commute-unsound : (x y : Call) (c : List ℕ) → is_sound c ≡ false → Commute step c x y
commute-unsound x y c s =
    let f = unsound-stays c x s in
    let g = unsound-stays c y s in
    record { states = rw (g, f, g); first = rw g; second = rw f }

pub commutation : Commutation
commutation c m k apart x y nx ny p t =
    swappable {Good = λ d. Unit {0}} (λ d z g. tt) x y (λ d g. by_cases (is_sound d) (commute-sound m k apart x y nx ny d) (commute-unsound x y d)) t p c tt

pub commands-commute : CommandsCommute
commands-commute c m k apart q i r j = commutation c m k apart (command q i) (command r j)
