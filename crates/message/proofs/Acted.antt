-- What the code that acts on a message leaves, from what it was told. Assumes nothing.
use Rattle.std.proofs.Common.{◌≡◌, ℕ, ◌+◌, ◌-◌, ◌%◌, ◌^◌, ◌<◌, ◌≤◌, Bool, true, false, not, leb, List, length, take, drop, sym, ap, ◌∙◌, arith, length-drop, leb-true}
use native.Mathlib.Nat.{add-sub_cancel_left}
use borrow.Author.Tests.{not-true, not-false}
use Rattle.std.specs.Prelude.{Some}
use Rattle.theory.specs.Logic.{when◌then◌else◌, unless◌answer◌then◌}
use Rattle.theory.specs.Bytes.{put}
use Rattle.theory.proofs.Tests.{by_cases, both}
use Rattle.theory.proofs.Bytes.{put-nil, length-bytes_at-le}
use Rattle.theory.proofs.Lent.{tail-is}
use Rattle.card.specs.Layout.{configuration_size, HasRecord, configuration_in, generation_in, with_configuration}
use Rattle.card.proofs.ConfigurationLaws.{configuration-long}
use Rattle.message.specs.declared.Access.TheVariants.{Read, Write}
use Rattle.message.specs.Format.{data_at, data_of, response_of}
use Rattle.message.specs.Message.{is_inside, readable, is_applied, next_generation, applied_to, act_of, fitting, delivered, sent_in}
use Rattle.message.proofs.Responded.{response-long}

-- ---- the bytes that are read ----

pub lent-long : (c : List ℕ) (m : ℕ) (r : List ℕ) → r ≡ configuration_in c m → HasRecord c m → length r ≡ configuration_size
lent-long c m r e h = rw e (configuration-long c m h)

inside_is : (offset n : ℕ) → is_inside offset n ≡ true → offset + n ≤ configuration_size
unfolding is_inside
inside_is offset n e = leb-true _ _ e

module _ (l : List ℕ) (offset n : ℕ) (b : Bool) (e : b ≡ is_inside offset n) where
  pub read_none : not b ≡ true → take (0 - 0) (drop 0 l) ≡ readable l offset n
  unfolding readable when◌then◌else◌
  read_none h = rw (sym e ∙ not-true b h)

  module _ (h : not b ≡ false) where
    pub read-ends : length l ≡ configuration_size → offset + n ≤ length l
    read-ends k = omega (arith, inside_is offset n (sym e ∙ not-false b h))

    pub read-inside : take (offset + n - offset) (drop offset l) ≡ readable l offset n
    unfolding readable when◌then◌else◌
    read-inside = rw (sym e ∙ not-false b h, add-sub_cancel_left offset n)

pub readable-few : (l : List ℕ) (offset n : ℕ) (r : List ℕ) → r ≡ readable l offset n → length r ≤ configuration_size
unfolding readable when◌then◌else◌
readable-few l offset n r e = rw e (by_cases (is_inside offset n)
    (λ t. let k = inside_is offset n t in rw t (omega (arith, length-bytes_at-le offset n l)))
    (λ t. rw t (omega arith)))

-- ---- the bytes that are written ----

-- bs are the message's bytes from the data on, as they are lent
module _ (x bs : List ℕ) (offset : ℕ) (e : bs ≡ take (length x - data_at) (drop data_at x)) (h : offset + length (data_of x) ≤ configuration_size) where
  pub bytes_inside : offset + length bs ≤ configuration_size
  bytes_inside = rw (e, tail-is data_at x) h

  pub bytes-few : length bs ≤ configuration_size
  bytes-few = omega (arith, bytes_inside)

pub applied-is : (current sent offset n : ℕ) → is_applied current sent offset n ≡ true → offset + n ≤ configuration_size
unfolding is_applied
applied-is current sent offset n e = inside_is offset n (both _ _ e).1

module _ (x : List ℕ) (n : ℕ) (e : data_at + n ≡ length x) where
  pub data-there : data_at ≤ length x
  data-there = omega arith

  pub applied-inside : (current sent offset : ℕ) (b : Bool) → b ≡ is_applied current sent offset n → b ≡ true
      → offset + length (data_of x) ≤ configuration_size
  applied-inside current sent offset b k h =
      let i = applied-is current sent offset n (sym k ∙ h) in
      omega (arith, length-drop data_at x)

-- ---- what is left: n and l' are what the writer of the response left of the buffer l ----

module _ (y l : List ℕ) where
  sent-whole : leb (length y) (length l) ≡ true → sent_in y l ≡ (length y, put 0 y l)
  unfolding sent_in unless◌answer◌then◌
  sent-whole t = rw t

  sent-not : leb (length y) (length l) ≡ false → sent_in y l ≡ (0, l)
  unfolding sent_in unless◌answer◌then◌
  sent-not t = rw t

module _ (c y l l' : List ℕ) (n : ℕ) (e : (n, l') ≡ sent_in y l) where
  -- the card stays, whether the response fits or not
  sent-kept : (n, (c, l')) ≡ delivered (fitting c (length l) (c, y)) l
  unfolding sent_in delivered fitting unless◌answer◌then◌
  sent-kept =
      ap (λ (z : ℕ × List ℕ). (z.0, (c, z.1))) e
      ∙ by_cases (leb (length y) (length l)) (λ t. rw t) (λ t. rw (t, put-nil))

  -- the card becomes d where it fits; a response has bytes
  sent-changed : (d : List ℕ) → (n ≡ 0 → ⊥) → (n, (d, l')) ≡ delivered (fitting c (length l) (d, y)) l
  unfolding delivered fitting unless◌answer◌then◌
  sent-changed d h =
      by_cases (leb (length y) (length l))
      (λ t. rw t (ap (λ (z : ℕ × List ℕ). (z.0, (d, z.1))) (e ∙ sent-whole y l t)))
      (λ t. absurd (h (ap (λ (z : ℕ × List ℕ). z.0) (e ∙ sent-not y l t))))

  sent-none : (d : List ℕ) → 0 < length y → n ≡ 0 → ◌≡◌ {A = ℕ × (List ℕ × List ℕ)} (0, (c, l')) (delivered (fitting c (length l) (d, y)) l)
  unfolding delivered fitting unless◌answer◌then◌
  sent-none d some h =
      by_cases (leb (length y) (length l))
      (λ t. let z : n ≡ length y = ap (λ (z : ℕ × List ℕ). z.0) (e ∙ sent-whole y l t) in absurd (omega arith))
      (λ t. rw (t, put-nil) (ap (λ (z : ℕ × List ℕ). (0, (c, z.1))) (e ∙ sent-not y l t)))

module _ (c x l l' : List ℕ) (m k : ℕ) where
  pub read-acted : (offset n g : ℕ) (all bs : List ℕ) → all ≡ configuration_in c m → bs ≡ readable all offset n → g ≡ generation_in c m
      → (k, l') ≡ sent_in (response_of x g offset bs) l
      → (k, (c, l')) ≡ delivered (fitting c (length l) (act_of c x (Some (Read m offset n)))) l
  unfolding act_of
  read-acted offset n g all bs ea eb eg e = sent-kept c _ l l' k (e ∙ rw (eb, ea, eg))

  module _ (sent offset n g : ℕ) (b : Bool) (eg : g ≡ generation_in c m) (eb : b ≡ is_applied g sent offset n) where
    pub write_kept : b ≡ false → (k, l') ≡ sent_in (response_of x g offset (take (0 - 0) (drop 0 x))) l
        → (k, (c, l')) ≡ delivered (fitting c (length l) (act_of c x (Some (Write m sent offset n)))) l
    unfolding act_of unless◌answer◌then◌
    write_kept h e = rw (← eg, sym eb ∙ h) (sent-kept c _ l l' k e)

    pub write-acted : (y : ℕ × (List ℕ × List ℕ)) → b ≡ true → y ≡ delivered (fitting c (length l) (applied_to c m x offset)) l
        → y ≡ delivered (fitting c (length l) (act_of c x (Some (Write m sent offset n)))) l
    unfolding act_of unless◌answer◌then◌
    write-acted y h e = rw (← eg, sym eb ∙ h) e

  module _ (offset g q : ℕ) (eg : g ≡ generation_in c m) (eq : q ≡ (g + 1) % 2 ^ 32)
      (e : (k, l') ≡ sent_in (response_of x q offset (take (length x - data_at) (drop data_at x))) l) where
    as-applied : (k, l') ≡ sent_in (applied_to c m x offset).1 l
    unfolding applied_to next_generation
    as-applied = e ∙ rw (tail-is data_at x, eq, eg)

    some : 0 < length (applied_to c m x offset).1
    unfolding applied_to
    some = omega (arith, response-long x (next_generation (generation_in c m)) offset (data_of x))

    pub apply-short : k ≡ 0 → ◌≡◌ {A = ℕ × (List ℕ × List ℕ)} (0, (c, l')) (delivered (fitting c (length l) (applied_to c m x offset)) l)
    apply-short h = sent-none c _ l l' k as-applied _ some h

    written : (d : List ℕ) → d ≡ with_configuration c m (put offset (take (length x - data_at) (drop data_at x)) (configuration_in c m)) q
        → d ≡ (applied_to c m x offset).0
    unfolding applied_to next_generation
    written d f = f ∙ rw (tail-is data_at x, eq, eg)

    pub apply-done : (d : List ℕ) → (k ≡ 0 → ⊥)
        → d ≡ with_configuration c m (put offset (take (length x - data_at) (drop data_at x)) (configuration_in c m)) q
        → (k, (d, l')) ≡ delivered (fitting c (length l) (applied_to c m x offset)) l
    apply-done d h f = rw (written d f) (sent-changed c _ l l' k as-applied _ h)
