-- A message by its cases: what is here is all that the proofs above use of the definition of `answer_of`. Assumes nothing.
use Rattle.std.proofs.Common.{◌≡◌, ℕ, ◌+◌, ◌^◌, ◌<◌, ◌≤◌, true, false, leb, List, [], length, sym, refl, ◌∙◌, arith, length-drop, eq-eqb, eqb-true, leb-true}
use Rattle.std.specs.Prelude.{Option, Some, None}
use Rattle.theory.specs.Logic.{unless◌answer◌then◌}
use Rattle.theory.proofs.Tests.{by_cases, if-cases, unless-cases, both, inside, never}
use Rattle.wire.specs.Le.{bytes, number}
use Rattle.wire.proofs.Le.{le_bytes}
use Rattle.card.specs.Layout.{configuration_size, setup_of, is_member, is_marked, generation_in, with_configuration}
use Rattle.card.specs.Sound.{is_sound}
use Rattle.message.specs.declared.Access.{Access}
use Rattle.message.specs.declared.Access.TheVariants.{Read, Write}
use Rattle.message.specs.Format.{member_for, data_at, length_of, data_of, response_header, response_fields, response_of}
use Rattle.message.specs.Access.{read_in, write_in, whole_of, speaks_for}
use Rattle.message.specs.Message.{is_applied, next_generation, applied_to, act_of, fitting, access_in, answer_of}
use Rattle.message.proofs.Asked.{Facts, access-cases, asked}
use Rattle.message.proofs.Acted.{applied-is}

-- ---- by whether the card is sound, and whether the response fits ----

module _ (c x : List ℕ) (room : ℕ) where
  pub answer-unsound : is_sound c ≡ false → answer_of c x room ≡ (c, [])
  unfolding answer_of unless◌answer◌then◌
  answer-unsound e = rw e

  pub answer-sound : is_sound c ≡ true → answer_of c x room ≡ fitting c room (act_of c x (access_in c x))
  unfolding answer_of unless◌answer◌then◌
  answer-sound e = rw e

  pub answer-cases : (P : List ℕ × List ℕ → Type 0) → P (c, [])
      → (is_sound c ≡ true → P (act_of c x (access_in c x))) → P (answer_of c x room)
  unfolding answer_of fitting
  answer-cases P f g = unless-cases P _ _ _ (λ t. f) (λ s. unless-cases P _ _ _ (λ t. f) (λ t. g s))

-- ---- whom a message names ----

pub speaks-one : (a : Option Access) (m k : ℕ) → speaks_for m a ≡ true → speaks_for k a ≡ true → m ≡ k
unfolding speaks_for
speaks-one None m k e f = never e
speaks-one (Some (Read j offset n)) m k e f = sym (eqb-true j m e) ∙ eqb-true j k f
speaks-one (Some (Write j sent offset n)) m k e f = sym (eqb-true j m e) ∙ eqb-true j k f

-- the member that its device number speaks for
Numbered : ℕ → List ℕ → Option Access → Type 0
Numbered m x a = speaks_for m a ≡ true → member_for x ≡ m

speaks-number : (m : ℕ) (x : List ℕ) → speaks_for m (whole_of x) ≡ true → member_for x ≡ m
unfolding whole_of read_in write_in Numbered speaks_for
speaks-number m x =
    unless-cases (Numbered m x) _ _ _ (λ t e. never e) λ t.
    if-cases (Numbered m x) _ _ _ (λ u. unless-cases (Numbered m x) _ _ _ (λ v e. never e) (λ v. eqb-true _ m)) λ u.
    if-cases (Numbered m x) _ _ _ (λ v. unless-cases (Numbered m x) _ _ _ (λ w e. never e) (λ w. eqb-true _ m))
    (λ v e. never e)

-- it gets no response where that member is marked
pub answer-marked : (c x : List ℕ) (m room : ℕ) → is_marked c m ≡ true → speaks_for m (whole_of x) ≡ true → answer_of c x room ≡ (c, [])
unfolding access_in act_of fitting unless◌answer◌then◌
answer-marked c x m room u e =
    by_cases (is_sound c)
    (λ s.
    rw (answer-sound c x room s, speaks-number m x e, u)
    (by_cases (is_member c m) (λ i. rw i (none-fits c room)) (λ i. rw i (none-fits c room))))
    (λ s. answer-unsound c x room s)
  where
    none-fits : (c : List ℕ) (room : ℕ) → fitting c room (c, []) ≡ (c, [])
    none-fits c room = by_cases (leb 0 room) (λ t. rw t) (λ t. rw t)

-- ---- the card after it: the same, or with another configuration and generation of the member that it names ----

module _ (c x : List ℕ) (Q : List ℕ → Type 0) (f : Q c) where
  act-card : (a : Option Access) → Facts (setup_of c).members x a
      → ((m : ℕ) (y : List ℕ) (g : ℕ) → is_member c m ≡ true → speaks_for m a ≡ true → Q (with_configuration c m y g)) → Q (act_of c x a).0
  unfolding act_of applied_to speaks_for
  act-card None t h = f
  act-card (Some (Read m offset n)) t h = f
  act-card (Some (Write m sent offset n)) t h =
      unless-cases (λ (y : List ℕ × List ℕ). Q y.0) _ _ _ (λ e. f)
      (λ e. h m _ _ (inside 1 _ m t.0.low t.0.high) (eq-eqb m m refl))

  pub card-cases : (room : ℕ) → ((m : ℕ) (y : List ℕ) (g : ℕ) → is_sound c ≡ true → is_member c m ≡ true → speaks_for m (whole_of x) ≡ true → Q (with_configuration c m y g))
      → Q (answer_of c x room).0
  unfolding act_of
  card-cases room h =
      answer-cases c x room (λ (y : List ℕ × List ℕ). Q y.0) f λ s.
      access-cases c x (λ a. Q (act_of c x a).0) f (λ t. act-card (whole_of x) t (λ m y g. h m y g s))

-- ---- an answer of length 0, or none ----

response-length : (x : List ℕ) (generation offset : ℕ) (bs : List ℕ) → length bs < 256 ^ 4 → length_of (response_of x generation offset bs) ≡ length bs
unfolding response_of response_header response_fields bytes number
response-length x generation offset bs h = le_bytes 4 (length bs) h

-- an applied write has data
applied-some : (x : List ℕ) (current sent offset n : ℕ) → data_at + n ≡ length x → is_applied current sent offset n ≡ true
    → (1 ≤ length (data_of x)) × (length (data_of x) ≤ configuration_size)
unfolding is_applied
applied-some x current sent offset n e t =
    let l = length-drop data_at x in
    let k : 1 ≤ n = leb-true _ _ (both _ _ (both _ _ t).0).0 in
    let i = applied-is current sent offset n t in
    (omega arith, omega arith)

Keeps : List ℕ → List ℕ × List ℕ → Type 0
Keeps c y = length_of y.1 ≡ 0 → y.0 ≡ c

act-keeps : (c x : List ℕ) (a : Option Access) → Facts (setup_of c).members x a → Keeps c (act_of c x a)
unfolding Keeps act_of applied_to
act-keeps c x None t = λ e. refl
act-keeps c x (Some (Read m offset n)) t = λ e. refl
act-keeps c x (Some (Write m sent offset n)) t =
    unless-cases (Keeps c) _ _ _ (λ u e. refl) λ u e.
    let s = applied-some x (generation_in c m) sent offset n t.1 u in
    absurd (omega (arith, s.0, s.1, response-length x (next_generation (generation_in c m)) offset (data_of x) (omega (arith, s.1))))

pub no-data-keeps : (c x : List ℕ) (room : ℕ) → length_of (answer_of c x room).1 ≡ 0 → (answer_of c x room).0 ≡ c
unfolding Keeps
no-data-keeps c x room = answer-cases c x room (Keeps c) (λ e. refl) (λ s. act-keeps c x _ (asked c x _ refl))

-- ---- the response fits ----

pub answer-fits : (c x : List ℕ) (room : ℕ) → length (answer_of c x room).1 ≤ room
unfolding answer_of fitting
answer-fits c x room =
    let P : List ℕ × List ℕ → Type 0 = λ y. length y.1 ≤ room in
    unless-cases P _ _ _ (λ t. omega arith) (λ s. unless-cases P _ _ _ (λ t. omega arith) (λ t. leb-true _ _ t))
