-- However the bytes are cut: fed one after the other they leave the card that holds them joined. Assumes nothing.
use mathlib.Core.Path.{◌≡◌, refl, ap, sym, ◌∙◌}
use mathlib.Core.Bool.{true, false}
use mathlib.Core.List.{List, [], ◌∷◌, ◌++◌, append-nil, append_assoc}
use Prim.Native.Nat.{ℕ, ◌+◌, ◌-◌, ◌≤◌, ◌<◌}
use native.Mathlib.Nat.{zero-add}
use native.Mathlib.Omega.{arith}
use lib.ListN.{length, take, drop, length-append}
use lib.Seq.{take_at}
use borrow.Author.Tests.{le-leb, lt-ltb, eq-eqb}
use Rattle.theory.specs.Logic.{unless◌answer◌then◌}
use Rattle.theory.specs.Bytes.{put}
use Rattle.theory.proofs.Tests.{by_cases}
use Rattle.theory.proofs.Bytes.{length-put, put-nil, put-append, put_front}
use Rattle.member.specs.declared.Member.{Member}
use Rattle.member.specs.Record.{holding_size}
use Rattle.member.specs.Member.{with_held}
use Rattle.card.specs.Layout.{is_member, member_in, is_marked, holding_in}
use Rattle.card.specs.Sound.{is_sound}
use Rattle.card.proofs.MemberLaws.{holding-with-member}
use Rattle.staging.specs.Staging.{held_in, held_bytes, with_held_bytes, opened, joined_to, begin_of, feed_of, finish_of}
use Rattle.staging.specs.Claims.{joined, fed, HoldsJoined, CutAnywhere}
use Rattle.staging.proofs.Refusals.{on-member, on-open, on-member-marked, on-open-marked}
use Rattle.staging.proofs.Places.{holding-back, holding-long, has, held-mark, held-sound, held-member, held_number, held-bytes, held-over}

-- a feed that is taken; n says what is held
feed-at : (d : List ℕ) (m : ℕ) (x : List ℕ) → is_sound d ≡ true → is_member d m ≡ true → is_marked d m ≡ false → (n : ℕ) → held_in d m ≡ n → 0 < n
    → n - 1 + length x ≤ holding_size → (feed_of d m x).1 ≡ with_held_bytes d m (n + length x) (put (n - 1) x (holding_in d m))
unfolding feed_of unless◌answer◌then◌
feed-at d m x s h u n e l i =
    rw (on-open d m (joined_to d m x) s h u (lt-ltb 0 (held_in d m) (rw e l))) (rw e (rw (le-leb (n - 1 + length x) holding_size i)))

-- ---- a holding place with these bytes ----

unfoldable holds : List ℕ → ℕ → List ℕ → List ℕ
holds c m y = with_held_bytes c m (1 + length y) (put 0 y (holding_in c m))

module _ (c : List ℕ) (m : ℕ) (e : is_sound c ≡ true) (h : is_member c m ≡ true) (u : is_marked c m ≡ false) where
  began : held_in c m ≡ 0 → (begin_of c m).1 ≡ holds c m []
  unfolding begin_of holds with_held_bytes unless◌answer◌then◌
  began z =
      rw (on-member c m (opened c m) e h u, eq-eqb (held_in c m) 0 z, put-nil, ← holding-with-member c m (with_held (member_in c m) 1))
      (sym (holding-back _ m))

  module _ (y x : List ℕ) (fits : length (y ++ x) ≤ holding_size) where
    long : length y + length x ≤ holding_size
    long = omega (arith, length-append y x)

    full : length (put 0 y (holding_in c m)) ≡ holding_size
    full = length-put 0 y (holding_in c m) ∙ holding-long c m (has c m e h)

    feeds : (feed_of (holds c m y) m x).1 ≡ holds c m (y ++ x)
    unfolding holds
    feeds =
        let w = long in
        let few : 1 + length y ≤ 1 + holding_size = omega arith in
        let next : 1 + length y + length x ≤ 1 + holding_size = omega arith in
        let p = put 0 y (holding_in c m) in
        let k : 1 + length y - 1 ≡ length y = omega arith in
        let j : 1 + length y + length x ≡ 1 + length (y ++ x) = omega (arith, length-append y x) in
        feed-at (holds c m y) m x (held-sound c m e h u _ few p) (held-member c m e h u _ few p) (held-mark c m e h _ p m ∙ u) (1 + length y)
        (ap (λ (z : Member). z.held) (held_number c m e h u _ few p)) (omega arith) (omega arith)
        ∙ rw (k, held-bytes c m e h u _ few p full)
        (held-over c m e h u _ few p _ _ next (length-put (length y) x p ∙ full)
        ∙ rw (j, put-append 0 y x (holding_in c m), zero-add))

  fed-all : (y : List ℕ) (xs : List (List ℕ)) → length (y ++ joined xs) ≤ holding_size → fed m (holds c m y) xs ≡ holds c m (y ++ joined xs)
  unfolding fed joined
  fed-all y [] i = rw append-nil
  fed-all y (x ∷ xs) i =
      let a = append_assoc y x (joined xs) in
      let g : length (y ++ x) ≤ holding_size = omega (arith, i, length-append y (x ++ joined xs), length-append x (joined xs), length-append y x) in
      rw (feeds y x g, ← a) (fed-all (y ++ x) xs (rw a i))

  -- and those bytes are held
  front-taken : (y l : List ℕ) → length y ≤ length l → take (1 + length y - 1) (put 0 y l) ≡ y
  front-taken y l i =
      let k : 1 + length y - 1 ≡ length y = omega arith in
      rw (k, put_front y l i) (take_at y (drop (length y) l) (length y) refl)

  held-joined : (y : List ℕ) → length y ≤ holding_size → held_bytes (holds c m y) m ≡ y
  unfolding holds
  held-joined y i =
      let l = holding-long c m (has c m e h) in
      let few : 1 + length y ≤ 1 + holding_size = omega arith in
      let p = put 0 y (holding_in c m) in
      ap (λ (z : Member). take (z.held - 1) (holding_in (holds c m y) m)) (held_number c m e h u (1 + length y) few p)
      ∙ ap (take (1 + length y - 1)) (held-bytes c m e h u (1 + length y) few p (length-put 0 y (holding_in c m) ∙ l))
      ∙ front-taken y (holding_in c m) (omega arith)

pub holds-joined : HoldsJoined
holds-joined c m e h u z xs i =
    ap (λ d. held_bytes d m) (rw (began c m e h u z) (fed-all c m e h u [] xs i)) ∙ held-joined c m e h u (joined xs) i

-- a marked member: nothing is begun, and nothing is held
marked-begun : (c : List ℕ) (m : ℕ) → is_sound c ≡ true → is_member c m ≡ true → is_marked c m ≡ true → (begin_of c m).1 ≡ c
unfolding begin_of
marked-begun c m e h u = ap (λ (y : ℕ × List ℕ). y.1) (on-member-marked c m (opened c m) e h u)

marked-fed : (c : List ℕ) (m : ℕ) → is_sound c ≡ true → is_member c m ≡ true → is_marked c m ≡ true → (xs : List (List ℕ)) → fed m c xs ≡ c
unfolding fed feed_of
marked-fed c m e h u [] = refl
marked-fed c m e h u (x ∷ xs) = rw (on-open-marked c m (joined_to c m x) e h u) (marked-fed c m e h u xs)

pub cut-anywhere : CutAnywhere
cut-anywhere c m id e h z xs ys p i =
    ap (λ d. finish_of d m id)
    (by_cases (is_marked c m)
    (λ u. rw (marked-begun c m e h u) (marked-fed c m e h u xs ∙ sym (marked-fed c m e h u ys)))
    (λ u. rw (began c m e h u z) (fed-all c m e h u [] xs i ∙ ap (holds c m) p ∙ sym (fed-all c m e h u [] ys (rw p at i)))))
