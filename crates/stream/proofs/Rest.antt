-- The captures that are still to come, at the end of an item and within one. Assumes nothing.
use mathlib.Core.Path.{◌≡◌, refl, ap, sym, ◌∙◌}
use mathlib.Core.Bool.{false}
use mathlib.Core.List.{List, [], ◌++◌}
use Prim.Native.Nat.{ℕ, zero, suc, ◌+◌, ◌-◌, ◌≤◌, ◌<◌}
use native.Mathlib.Nat.{le_refl, zero-add}
use native.Mathlib.Omega.{arith}
use lib.Dec.{eqb, leb, ltb}
use lib.ListN.{length, take, drop, length-append}
use lib.Seq.{take_at, drop_at, take-add, take_all, drop-append-add}
use borrow.Author.Tests.{lt-ltb, le-leb, lt-leb, eqb-true, eqb-false, leb-true, leb-false, ltb-true, ltb-false}
use Rattle.theory.specs.Logic.{when◌then◌else◌, unless◌answer◌then◌}
use Rattle.theory.specs.Bytes.{put}
use Rattle.theory.proofs.Bytes.{take-before, bytes_at-put}
use Rattle.theory.proofs.Tests.{by_cases, if-cases}
use Rattle.wire.specs.Le.{number}
use Rattle.tally.specs.Counts.{◌plus◌}
use Rattle.tally.specs.Rows.{longest, adds_of, adds_long}
use Rattle.tally.proofs.Captures.{read_more}
use Rattle.stream.specs.Stream.{Captures, capture, long, length_size, most, capture_then, captures_in}
use Rattle.stream.specs.Progress.{read_of, long_then, with_rest, figures_from, Counted, Ready}
use Rattle.stream.specs.Steps.{awaiting, opened}
use Rattle.stream.proofs.Totals.{one-counted, long-counted, counted-capture, counted-long}

-- ---- a capture, or what is left of a long one, has come ----

pub capture-come : (n : ℕ) (c l : List ℕ) (rest : List ℕ → Captures) → length c ≡ n → n ≤ longest
    → capture_then n (c ++ l) rest ≡ capture c (rest l)
unfolding capture_then unless◌answer◌then◌ when◌then◌else◌
capture-come n c l rest e h =
    let m : n ≤ length (c ++ l) = simp length-append (omega arith) in
    rw (le-leb n (length (c ++ l)) m, le-leb n longest h, take_at c l n e, drop_at c l n e)

pub long-come : (n : ℕ) (c l : List ℕ) (rest : List ℕ → Captures) → length c ≡ n → long_then n (c ++ l) rest ≡ long (rest l)
unfolding long_then unless◌answer◌then◌
long-come n c l rest e =
    let m : n ≤ length (c ++ l) = simp length-append (omega arith) in
    rw (le-leb n (length (c ++ l)) m, drop_at c l n e)

pub long-opened : (n : ℕ) (l : List ℕ) (rest : List ℕ → Captures) → leb n longest ≡ false → capture_then n l rest ≡ long_then n l rest
unfolding capture_then long_then when◌then◌else◌
long-opened n l rest e = rw e

-- bytes of a long one
pub long-on : (n : ℕ) (c l : List ℕ) (rest : List ℕ → Captures) → length c ≤ n → long_then n (c ++ l) rest ≡ long_then (n - length c) l rest
unfolding long_then unless◌answer◌then◌
long-on n c l rest h =
    let d : drop n (c ++ l) ≡ drop (n - length c) l = dropped in
    by_cases (leb (n - length c) (length l))
    (λ e.
    let k : n - length c ≤ length l = leb-true _ _ e in
    let m : n ≤ length (c ++ l) = simp length-append (omega arith) in
    rw (e, le-leb n (length (c ++ l)) m, d))
    (λ e.
    let k : length l < n - length c = leb-false _ _ e in
    let m : length (c ++ l) < n = simp length-append (omega arith) in
    rw (e, lt-leb n (length (c ++ l)) m))
  where
    dropped : drop n (c ++ l) ≡ drop (n - length c) l
    dropped = let z : n ≡ length c + (n - length c) = omega arith in ap (λ k. drop k (c ++ l)) z ∙ drop-append-add c l (n - length c)

-- a length has come
pub length-come : (m : ℕ) (c l : List ℕ) → length c ≡ length_size → 0 < m
    → captures_in m (c ++ l) ≡ capture_then (number 0 length_size c) l (captures_in (m - 1))
unfolding captures_in unless◌answer◌then◌ number
length-come zero c l e h = absurd (omega arith)
length-come (suc m) c l e h =
    let s : 0 < length (c ++ l) = simp length-append (omega arith) in
    let t : length_size ≤ length (c ++ l) = simp length-append (omega arith) in
    let z : suc m - 1 ≡ m = omega arith in
    rw (lt-ltb 0 (length (c ++ l)) s, le-leb length_size (length (c ++ l)) t, take_at c l length_size e, drop_at c l length_size e, take_all length_size c (omega arith), z)

-- ---- what a run of bytes leaves in the buffer ----

pub held_more : (have : ℕ) (run b after : List ℕ) → after ≡ put have run b → have + length run ≤ length b
    → take (have + length run) after ≡ take have b ++ run
held_more have run b after e h =
    rw e (take-add have (length run) (put have run b)
    ∙ rw (take-before have have run b (le_refl have), bytes_at-put have run b h))

-- ---- the next item ----

module _ (q : ℕ) (features counts : List ℕ) (w : Counted counts) where
  -- a capture has ended
  awaits : (b l : List ℕ) → figures_from q features (awaiting counts) b l ≡ with_rest q features counts (captures_in (most - read_of counts) l)
  unfolding awaiting when◌then◌else◌ captures_in
  awaits b l =
      by_cases (ltb (read_of counts) most) (λ e. rw e)
      (λ e.
      let h : most ≤ read_of counts = ltb-false _ _ e in
      let z : most - read_of counts ≡ 0 = omega arith in
      rw (e, z))

  pub awaiting-ready : (b : List ℕ) → length b ≡ longest → Ready (awaiting counts) b
  unfolding awaiting
  awaiting-ready b r =
      if-cases (λ p. Ready p b) (ltb (read_of counts) most) _ _
      (λ e. record { room = r; more = omega arith; counted = w; within = refl; going = ltb-true _ _ e })
      (λ e. record { room = r; more = omega arith; counted = w; within = tt; going = tt })

module _ (q : ℕ) (features counts : List ℕ) (w : Counted counts) (h : read_of counts < most) where
  -- a capture of these bytes
  pub capture-closed : (c b l : List ℕ) → length c ≤ longest
      → figures_from q features (awaiting (counts plus adds_of q features c)) b l
      ≡ with_rest q features counts (capture c (captures_in (most - read_of counts - 1) l))
  capture-closed c b l s =
      let r : read_of (counts plus adds_of q features c) ≡ read_of counts + 1 = read_more counts q _ c w.some in
      let z : most - read_of (counts plus adds_of q features c) ≡ most - read_of counts - 1 = omega arith in
      awaits q features _ (counted-capture counts w h q features c s) b l
      ∙ ap (λ m. with_rest q features (counts plus adds_of q features c) (captures_in m l)) z ∙ one-counted q features counts c _

  pub long-closed : (b l : List ℕ) → figures_from q features (awaiting (counts plus adds_long)) b l
      ≡ with_rest q features counts (long (captures_in (most - read_of counts - 1) l))
  long-closed b l =
      let r : read_of (counts plus adds_long) ≡ read_of counts + 1 = read_more counts 0 8 [] w.some in
      let z : most - read_of (counts plus adds_long) ≡ most - read_of counts - 1 = omega arith in
      awaits q features _ (counted-long counts w h) b l
      ∙ ap (λ m. with_rest q features (counts plus adds_long) (captures_in m l)) z ∙ long-counted q features counts _

  -- a length of n
  pub length-closed : (n : ℕ) (b l : List ℕ) → figures_from q features (opened q features counts n) b l
      ≡ with_rest q features counts (capture_then n l (captures_in (most - read_of counts - 1)))
  unfolding opened when◌then◌else◌
  length-closed n b l =
      by_cases (eqb n 0)
      (λ e. let z : n ≡ 0 = eqb-true _ _ e in
      rw (e, z, capture-come 0 [] l (captures_in (most - read_of counts - 1)) refl (omega arith)) (capture-closed [] b l (omega arith)))
      (λ e.
      by_cases (leb n longest) (λ f. rw (e, f, zero-add))
      (λ f. rw (e, f) (ap (with_rest q features counts) (sym (long-opened n l (captures_in (most - read_of counts - 1)) f)))))

  pub opened-ready : (n : ℕ) (b : List ℕ) → length b ≡ longest → Ready (opened q features counts n) b
  unfolding opened
  opened-ready n b r =
      if-cases (λ p. Ready p b) (eqb n 0) _ _
      (λ e. awaiting-ready q features _ (counted-capture counts w h q features [] (omega arith)) b r)
      (λ e.
      let k : n ≡ 0 → ⊥ = eqb-false _ _ e in
      if-cases (λ p. Ready p b) (leb n longest) _ _
      (λ f. let g : n ≤ longest = leb-true _ _ f in record { room = r; more = omega arith; counted = w; within = omega arith; going = h })
      (λ f. record { room = r; more = omega arith; counted = w; within = tt; going = h }))
