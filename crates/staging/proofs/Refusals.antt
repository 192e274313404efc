-- The refusals that leave the card: as the code meets them, and by their cases. Assumes nothing.
use Rattle.std.specs.Result.{IsErrAnd, result_and}
use Rattle.std.proofs.lemmas.Result.{err_from_is_err_and}
use Rattle.staging.specs.declared.RestoreError.{RestoreError}
use Rattle.staging.specs.declared.RestoreError.TheVariants.{NotSound, Refused}
use Rattle.std.specs.Prelude.{Result, Ok, Err, ⊤, is_ok}
use mathlib.Core.Path.{◌≡◌, refl, ap, sym, ◌∙◌}
use mathlib.Core.Bool.{Bool, true, false, not}
use mathlib.Core.List.{List}
use Prim.Native.Nat.{ℕ, ◌≤◌, ◌<◌}
use native.Mathlib.Omega.{arith}
use lib.ListN.{length}
use borrow.Author.Tests.{not-false, lt-ltb}
use Rattle.theory.specs.Logic.{unless◌answer◌then◌}
use Rattle.theory.proofs.Tests.{by_cases, never}
use Rattle.protocol.specs.declared.Refusal.TheVariants.{NoMember, Marked, NotLive}
use Rattle.member.specs.declared.Member.{Member}
use Rattle.card.specs.Layout.{card_header_size, card_size, setup_of, is_member, member_in, is_marked, HasRecord}
use Rattle.card.specs.Sound.{is_sound}
use Rattle.card.proofs.SoundLaws.{sound-of, sound-long, sound-has}
use Rattle.staging.specs.Staging.{held_in, is_open, answer_number, not_sound, member_refusal, open_refusal, if_none, on_member, on_open}

-- ---- tests, of which the first that fails gives the answer ----

-- those of every call: s says whether the card is sound, b whether the member is there, u whether it is marked
three : Bool → Bool → Bool → Result ⊤ RestoreError
three s b u = unless s answer Err NotSound then unless b answer Err (Refused NoMember) then unless not u answer Err (Refused Marked) then Ok tt

pub record Admitted (s b u : Bool) : Type 0 where
  pub sound : s ≡ true
  pub member : b ≡ true
  pub unmarked : u ≡ false

three-passed : (s b u : Bool) → is_ok (three s b u) ≡ true → Admitted s b u
unfolding three unless◌answer◌then◌
three-passed true true false e = record { sound = refl; member = refl; unmarked = refl }
three-passed true true true e = never e
three-passed true false u e = never e
three-passed false b u e = never e

member-tests : (c : List ℕ) (m : ℕ) → is_ok (member_refusal c m) ≡ true → Admitted (is_sound c) (is_member c m) (is_marked c m)
unfolding member_refusal three
member-tests c m e = three-passed (is_sound c) (is_member c m) (is_marked c m) e

-- and o, whether a holding place is open, where it needs one
pub record Passed (s b u o : Bool) : Type 0 where
  pub sound : s ≡ true
  pub member : b ≡ true
  pub unmarked : u ≡ false
  pub begun : o ≡ true

opened : Bool → Result ⊤ RestoreError
opened o = unless o answer Err (Refused NotLive) then Ok tt

open_is : (r : Result ⊤ RestoreError) (o : Bool) → is_ok (result_and r (opened o)) ≡ true → (is_ok r ≡ true) × (o ≡ true)
unfolding opened unless◌answer◌then◌
open_is (Ok x) true e = (refl, refl)
open_is (Ok x) false e = never e
open_is (Err a) o e = never e

open-tests : (c : List ℕ) (m : ℕ) → is_ok (open_refusal c m) ≡ true → Passed (is_sound c) (is_member c m) (is_marked c m) (is_open c m)
unfolding open_refusal opened
open-tests c m e =
    let p = open_is (member_refusal c m) (is_open c m) e in
    let t = member-tests c m p.0 in
    record { sound = t.sound; member = t.member; unmarked = t.unmarked; begun = p.1 }

-- ---- a call for one member: a is what its tests came to ----

pub told-long : (c : List ℕ) (t : Bool) → t ≡ is_sound c → not t ≡ false → card_header_size ≤ length c
told-long c t e n = sound-long c (sound-of c (sym e ∙ not-false t n))

pub told-whole : (c : List ℕ) (t : Bool) → t ≡ is_sound c → not t ≡ false → length c ≡ card_size (setup_of c).members
told-whole c t e n = (sound-of c (sym e ∙ not-false t n)).long

module _ (c : List ℕ) (m : ℕ) (a : Result ⊤ RestoreError) (e : a ≡ member_refusal c m) where
  module _ (d : RestoreError) (h : a ≡ Err d) (o : Result ⊤ RestoreError) (i : IsErrAnd o (λ y. y ≡ d)) where
    pub member-refused : (x : ℕ × List ℕ) → ◌≡◌ {A = ℕ × List ℕ} (answer_number o, c) (on_member c m x)
    unfolding on_member if_none
    member-refused x = let p = err_from_is_err_and o i in rw (p.1, p.2, sym e ∙ h)

    -- the refusals of a call that needs a holding place begin with it
    pub member-first : o ≡ open_refusal c m
    unfolding open_refusal
    member-first = let p = err_from_is_err_and o i in rw (p.1, p.2, sym e ∙ h)

  module _ (u : ⊤) (z : a ≡ Ok u) where
    pub member-passed : (x y : ℕ × List ℕ) → x ≡ y → x ≡ on_member c m y
    unfolding on_member if_none
    member-passed x y h = rw (sym e ∙ z) h

    pub member-record : HasRecord c m
    member-record = let t = member-tests c m (ap is_ok (sym e ∙ z)) in sound-has c (sound-of c t.sound) m t.member

    module _ (y : Member) (p : y ≡ member_in c m) where
      pub not-begun : y.held ≡ 0 → Err (Refused NotLive) ≡ open_refusal c m
      unfolding open_refusal unless◌answer◌then◌
      not-begun h = let n : held_in c m ≡ 0 = rw p at h in rw (sym e ∙ z, n)

      pub is-begun : (y.held ≡ 0 → ⊥) → Ok tt ≡ open_refusal c m
      unfolding open_refusal unless◌answer◌then◌
      is-begun h =
          let g : 0 < y.held = omega arith in
          let n : 0 < held_in c m = rw p at g in
          rw (sym e ∙ z, lt-ltb 0 (held_in c m) n)

-- ---- a call that needs a holding place ----

module _ (c : List ℕ) (m : ℕ) (a : Result ⊤ RestoreError) (e : a ≡ open_refusal c m) where
  pub open-refused : (d : RestoreError) → a ≡ Err d → (o : Result ⊤ RestoreError) → IsErrAnd o (λ y. y ≡ d) → (x : ℕ × List ℕ)
      → ◌≡◌ {A = ℕ × List ℕ} (answer_number o, c) (on_open c m x)
  unfolding on_open if_none
  open-refused d h o i x = let p = err_from_is_err_and o i in rw (p.1, p.2, sym e ∙ h)

  module _ (u : ⊤) (z : a ≡ Ok u) where
    pub passed : Passed (is_sound c) (is_member c m) (is_marked c m) (is_open c m)
    passed = open-tests c m (ap is_ok (sym e ∙ z))

    pub open-passed : (x y : ℕ × List ℕ) → x ≡ y → x ≡ on_open c m y
    unfolding on_open if_none
    open-passed x y h = rw (sym e ∙ z) h

    pub open-sound : is_sound c ≡ true
    open-sound = passed.sound

    pub open-member : is_member c m ≡ true
    open-member = passed.member

    pub open-record : HasRecord c m
    open-record = sound-has c (sound-of c passed.sound) m passed.member

-- ---- by cases ----

none-cases : (P : ℕ × List ℕ → Type 0) (r : Result ⊤ RestoreError) (x : ℕ × List ℕ) (c : List ℕ) → ((a : ℕ) → P (a, c))
    → (is_ok r ≡ true → P x) → P (if_none r x c)
unfolding if_none
none-cases P (Ok y) x c f g = g refl
none-cases P (Err a) x c f g = f _

none-both : (P : ℕ × List ℕ → ℕ × List ℕ → Type 0) (r : Result ⊤ RestoreError) (x y : ℕ × List ℕ) (c : List ℕ) → ((a : ℕ) → P (a, c) (a, c))
    → (is_ok r ≡ true → P x y) → P (if_none r x c) (if_none r y c)
unfolding if_none
none-both P (Ok z) x y c f g = g refl
none-both P (Err a) x y c f g = f _

module _ (c : List ℕ) (m : ℕ) (next : ℕ × List ℕ) where
  pub on-member : is_sound c ≡ true → is_member c m ≡ true → is_marked c m ≡ false → on_member c m next ≡ next
  unfolding on_member if_none member_refusal unless◌answer◌then◌
  on-member s h u = rw (s, h, u)

  pub on-open : is_sound c ≡ true → is_member c m ≡ true → is_marked c m ≡ false → is_open c m ≡ true → on_open c m next ≡ next
  unfolding on_open if_none open_refusal member_refusal unless◌answer◌then◌
  on-open s h u o = rw (s, h, u, o)

  -- a marked member is refused
  pub on-member-marked : is_sound c ≡ true → is_member c m ≡ true → is_marked c m ≡ true → on_member c m next ≡ (answer_number (Err (Refused Marked)), c)
  unfolding on_member if_none member_refusal unless◌answer◌then◌
  on-member-marked s h u = rw (s, h, u)

  pub on-open-marked : is_sound c ≡ true → is_member c m ≡ true → is_marked c m ≡ true → on_open c m next ≡ (answer_number (Err (Refused Marked)), c)
  unfolding on_open if_none open_refusal member_refusal unless◌answer◌then◌
  on-open-marked s h u = rw (s, h, u)

  -- what holds of every refusal, which leaves the card, and of what is next
  pub on-member-cases : (P : ℕ × List ℕ → Type 0) → ((a : ℕ) → P (a, c))
      → (Admitted (is_sound c) (is_member c m) (is_marked c m) → P next) → P (on_member c m next)
  unfolding on_member
  on-member-cases P f g = none-cases P (member_refusal c m) next c f (λ t. g (member-tests c m t))

  pub on-open-cases : (P : ℕ × List ℕ → Type 0) → ((a : ℕ) → P (a, c))
      → (Passed (is_sound c) (is_member c m) (is_marked c m) (is_open c m) → P next) → P (on_open c m next)
  unfolding on_open
  on-open-cases P f g = none-cases P (open_refusal c m) next c f (λ t. g (open-tests c m t))

  -- two calls that a refusal leaves alike
  pub on-open-both : (P : ℕ × List ℕ → ℕ × List ℕ → Type 0) (other : ℕ × List ℕ) → ((a : ℕ) → P (a, c) (a, c))
      → (Passed (is_sound c) (is_member c m) (is_marked c m) (is_open c m) → P next other) → P (on_open c m next) (on_open c m other)
  unfolding on_open
  on-open-both P other f g = none-both P (open_refusal c m) next other c f (λ t. g (open-tests c m t))

  -- on a sound card
  pub on-member-sound : is_sound c ≡ true
      → on_member c m next ≡ (unless is_member c m answer (answer_number (Err (Refused NoMember)), c) then unless not (is_marked c m) answer (answer_number (Err (Refused Marked)), c) then next)
  unfolding on_member if_none member_refusal unless◌answer◌then◌
  on-member-sound s =
      rw s (by_cases (is_member c m) (λ t. rw t (by_cases (is_marked c m) (λ u. rw u) (λ u. rw u))) (λ t. rw t))

  pub on-open-sound : is_sound c ≡ true
      → on_open c m next
      ≡ (unless is_member c m answer (answer_number (Err (Refused NoMember)), c) then
      unless not (is_marked c m) answer (answer_number (Err (Refused Marked)), c) then
      unless is_open c m answer (answer_number (Err (Refused NotLive)), c) then next)
  unfolding on_open if_none open_refusal member_refusal unless◌answer◌then◌
  on-open-sound s =
      rw s (by_cases (is_member c m)
      (λ t. rw t (by_cases (is_marked c m) (λ u. rw u) λ u. rw u (by_cases (is_open c m) (λ o. rw o) (λ o. rw o))))
      (λ t. rw t))

  pub on-member-unsound : is_sound c ≡ false → on_member c m next ≡ (not_sound, c)
  unfolding on_member if_none member_refusal unless◌answer◌then◌
  on-member-unsound s = rw s

  pub on-open-unsound : is_sound c ≡ false → on_open c m next ≡ (not_sound, c)
  unfolding on_open if_none open_refusal member_refusal unless◌answer◌then◌
  on-open-unsound s = rw s
