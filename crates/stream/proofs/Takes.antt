-- What a run of bytes leaves: one law for each need and return of the functions that take runs. Assumes nothing.
use mathlib.Core.Path.{◌≡◌, ap, sym, subst, ◌∙◌}
use mathlib.Core.List.{List, ◌++◌, append_assoc}
use Prim.Native.Nat.{ℕ, ◌+◌, ◌-◌, ◌≤◌, ◌<◌}
use native.Mathlib.Nat.{le_refl}
use native.Mathlib.Omega.{arith}
use mir.Syntax.{w64}
use mir.Val.{Fits}
use lib.Dec.{ltb}
use lib.ListN.{length, take}
use lib.Seq.{take-take, length-take-le}
use borrow.Author.Tests.{ltb-true, ltb-false}
use Rattle.theory.proofs.Tests.{by_cases}
use Rattle.theory.specs.Logic.{when◌then◌else◌}
use Rattle.theory.specs.Bytes.{put}
use Rattle.theory.proofs.Bytes.{length-put}
use Rattle.wire.specs.Le.{le, number}
use Rattle.tally.specs.Counts.{◌plus◌}
use Rattle.tally.specs.Rows.{longest, adds_of}
use Rattle.stream.specs.Stream.{length_size, most, capture_then, captures_in}
use Rattle.stream.specs.Progress.{read_of, rest_in, rest_of, with_rest, Within, Going, Ready, Took, Run}
use Rattle.stream.specs.Steps.{progress, awaiting, opened, skipped}
use Rattle.stream.specs.declared.Item.{Item}
use Rattle.stream.specs.declared.Item.TheVariants as item
use Rattle.stream.specs.declared.Progress.{Progress}
use Rattle.stream.proofs.Totals.{counted-capture, counted-long}
use Rattle.stream.proofs.Rest.{capture-come, long-come, long-on, length-come, held_more, awaiting-ready, opened-ready, capture-closed, long-closed, length-closed}

-- ---- the item under way ----

module _ (p : Progress) (b : List ℕ) (i : Item) (e : p.item ≡ i) where
  pub rest-is : (l : List ℕ) → rest_of p b l ≡ rest_in i p.have p.left (most - read_of p.counts) (take p.have b) l
  rest-is l = ap (λ x. rest_in x p.have p.left (most - read_of p.counts) (take p.have b) l) e

  pub within-is : Ready p b → Within i p.have p.left
  within-is w = rw e at w.within

  pub going-is : Ready p b → Going i (read_of p.counts)
  going-is w = rw e at w.going

number-front : (x : List ℕ) → number 0 length_size (take length_size x) ≡ number 0 length_size x
unfolding number
number-front x = ap le (take-take length_size length_size x (le_refl length_size))

-- ---- a length ----

module _ (p : Progress) (b run : List ℕ) (w : Ready p b) (e : p.item ≡ item.Length) (z : Run p.left (length run) (length run)) where
  length-size : p.have + p.left ≡ length_size
  length-size = within-is p b item.Length e w

  pub length-room : p.have + length run ≤ length b
  length-room = omega (arith, length-size, z.item, w.room)

  pub length-sum : Fits w64 (p.have + length run)
  length-sum = record { fits = omega (arith, length-size, z.item) }

  -- c: its four bytes
  whole : (q : ℕ) (features after c : List ℕ) → c ≡ take p.have b ++ run → length c ≡ length_size → length after ≡ longest
      → Took q features p b run (opened q features p.counts (number 0 length_size c)) after
  whole q features after c k m a =
      let going : read_of p.counts < most = going-is p b item.Length e w in
      record {
        ready = opened-ready q features p.counts w.counted going (number 0 length_size c) after a;
        same = λ l.
            let come : capture_then (number 0 length_size c) l (captures_in (most - read_of p.counts - 1))
            ≡ captures_in (most - read_of p.counts) (c ++ l) =
            sym (length-come (most - read_of p.counts) c l m (omega arith)) in
            let rest : captures_in (most - read_of p.counts) (c ++ l) ≡ rest_of p b (run ++ l) =
            rw (k, append_assoc) (sym (rest-is p b item.Length e (run ++ l))) in
            length-closed q features p.counts w.counted going (number 0 length_size c) after l
            ∙ ap (with_rest q features p.counts) (come ∙ rest);
      }

  -- all four lie in the run
  pub run-four : p.left ≤ length run → p.have ≡ 0 → length_size ≤ length run
  run-four h k = omega (arith, length-size)

  pub length-here : (q : ℕ) (features : List ℕ) (r : Progress) → r ≡ opened q features p.counts (number 0 length_size run)
      → p.left ≤ length run → p.have ≡ 0 → Took q features p b run r b
  length-here q features r f h k =
      let none : run ≡ take p.have b ++ run = rw k in
      rw f (whole q features b run none (omega (arith, length-size, z.item)) w.room)

  module _ (q : ℕ) (features after : List ℕ) (put-there : after ≡ put p.have run b) where
    held : take (p.have + length run) after ≡ take p.have b ++ run
    held = held_more p.have run b after put-there length-room

    long_after : length after ≡ longest
    long_after = rw (put-there, length-put) w.room

    pub length_front : length_size ≤ length after
    length_front = omega (arith, long_after)

    length-going : length run < p.left
        → Took q features p b run (progress item.Length (p.have + length run) (p.left - length run) p.counts) after
    length-going h = record {
      ready = record {
        room = long_after;
        more = omega arith;
        counted = w.counted;
        within = omega (arith, length-size);
        going = going-is p b item.Length e w;
      };
      same = λ l.
          ap (with_rest q features p.counts)
          (rw (held, append_assoc) (sym (rest-is p b item.Length e (run ++ l))));
    }

    -- the item stays as it is
    pub length_more : length run < p.left
        → Took q features p b run (progress p.item (p.have + length run) (p.left - length run) p.counts) after
    length_more h =
        let P : Item → Type 0 = λ i. Took q features p b run (progress i (p.have + length run) (p.left - length run) p.counts) after in
        subst P (sym e) (length-going h)

    pub length-done : (r : Progress) → r ≡ opened q features p.counts (number 0 length_size after) → p.left ≤ length run
        → Took q features p b run r after
    length-done r f h =
        let four : p.have + length run ≡ length_size = omega (arith, length-size, z.item) in
        let c : take length_size after ≡ take p.have b ++ run = rw four at held in
        rw (f, ← number-front after) (whole q features after (take length_size after) c (length-take-le length_size after length_front) long_after)

-- ---- a capture ----

module _ (p : Progress) (b run : List ℕ) (w : Ready p b) (e : p.item ≡ item.Capture) (z : Run p.left (length run) (length run)) where
  capture-size : p.have + p.left ≤ longest
  capture-size = within-is p b item.Capture e w

  capture-going : read_of p.counts < most
  capture-going = going-is p b item.Capture e w

  pub capture-room : p.have + length run ≤ length b
  capture-room = omega (arith, capture-size, z.item, w.room)

  pub capture-sum : Fits w64 (p.have + length run)
  capture-sum = record { fits = omega (arith, capture-size, z.item) }

  pub run_short : length run ≤ longest
  run_short = omega (arith, capture-size, z.item)

  -- c: all its bytes
  done : (q : ℕ) (features after c : List ℕ) → c ≡ take p.have b ++ run → p.left ≤ length run → length c ≤ longest
      → length c ≡ p.have + p.left → length after ≡ longest
      → Took q features p b run (awaiting (p.counts plus adds_of q features c)) after
  done q features after c k h s n a = record {
    ready = awaiting-ready q features _ (counted-capture p.counts w.counted capture-going q features c s) after a;
    same = λ l.
        capture-closed q features p.counts w.counted capture-going c after l s
        ∙ ap (with_rest q features p.counts)
        (sym (capture-come (p.have + p.left) c l (captures_in (most - read_of p.counts - 1)) n capture-size)
        ∙ rw (k, append_assoc) (sym (rest-is p b item.Capture e (run ++ l))));
  }

  pub capture-here : (q : ℕ) (features : List ℕ) (r : Progress) → r ≡ awaiting (p.counts plus adds_of q features run)
      → p.left ≤ length run → p.have ≡ 0 → Took q features p b run r b
  capture-here q features r f h k =
      let none : run ≡ take p.have b ++ run = rw k in
      rw f (done q features b run none h run_short (omega (arith, z.item)) w.room)

  module _ (q : ℕ) (features after : List ℕ) (put-there : after ≡ put p.have run b) where
    held-here : take (p.have + length run) after ≡ take p.have b ++ run
    held-here = held_more p.have run b after put-there capture-room

    pub after-room : p.have + length run ≤ length after
    after-room = rw (put-there, length-put) capture-room

    long-here : length after ≡ longest
    long-here = rw (put-there, length-put) w.room

    pub held-long : p.have + length run ≡ length (take (p.have + length run) after)
    held-long = sym (length-take-le (p.have + length run) after after-room)

    pub held-short : length (take (p.have + length run) after) ≤ longest
    held-short = rw (length-take-le (p.have + length run) after after-room) (omega (arith, capture-size, z.item))

    capture-on : length run < p.left
        → Took q features p b run (progress item.Capture (p.have + length run) (p.left - length run) p.counts) after
    capture-on h =
        let same_size : p.have + length run + (p.left - length run) ≡ p.have + p.left = omega arith in
        record {
          ready = record {
            room = long-here;
            more = omega arith;
            counted = w.counted;
            within = rw same_size capture-size;
            going = capture-going;
          };
          same = λ l.
              ap (with_rest q features p.counts)
              (rw (same_size, held-here, append_assoc) (sym (rest-is p b item.Capture e (run ++ l))));
        }

    pub capture-more : length run < p.left
        → Took q features p b run (progress p.item (p.have + length run) (p.left - length run) p.counts) after
    capture-more h =
        let P : Item → Type 0 = λ i. Took q features p b run (progress i (p.have + length run) (p.left - length run) p.counts) after in
        subst P (sym e) (capture-on h)

    pub capture-done : (r : Progress) → r ≡ awaiting (p.counts plus adds_of q features (take (p.have + length run) after))
        → p.left ≤ length run → Took q features p b run r after
    capture-done r f h =
        let n : length (take (p.have + length run) after) ≡ p.have + length run = length-take-le (p.have + length run) after after-room in
        rw f (done q features after (take (p.have + length run) after) held-here h
        (omega (arith, capture-size, z.item)) (omega (arith, z.item)) long-here)

-- ---- a long capture, and nothing more ----

module _ (p : Progress) (b run : List ℕ) (w : Ready p b) (z : Run p.left (length run) (length run)) where
  pub skip-took : (q : ℕ) (features : List ℕ) (r : Progress) → p.item ≡ item.Skipped → r ≡ skipped p (length run)
      → Took q features p b run r b
  unfolding skipped when◌then◌else◌
  skip-took q features r e f = by_cases (ltb (length run) p.left)
      (λ t.
      let h : length run < p.left = ltb-true _ _ t in
      rw (f, t) (record {
        ready = record { room = w.room; more = omega arith; counted = w.counted; within = tt; going = going-is p b item.Skipped e w };
        same = λ l.
            ap (with_rest q features p.counts)
            (sym (rest-is p b item.Skipped e (run ++ l) ∙ long-on p.left run l (captures_in (most - read_of p.counts - 1)) z.item));
      }))
      (λ t.
      let h : p.left ≤ length run = ltb-false _ _ t in
      let going : read_of p.counts < most = going-is p b item.Skipped e w in
      rw (f, t) (record {
        ready = awaiting-ready q features _ (counted-long p.counts w.counted going) b w.room;
        same = λ l.
            long-closed q features p.counts w.counted going b l
            ∙ ap (with_rest q features p.counts)
            (sym (rest-is p b item.Skipped e (run ++ l)
            ∙ long-come p.left run l (captures_in (most - read_of p.counts - 1)) (omega (arith, z.item))));
      }))

  pub stop-took : (q : ℕ) (features : List ℕ) → p.item ≡ item.Stopped → Took q features p b run p b
  stop-took q features e = record {
    ready = w;
    same = λ l. ap (with_rest q features p.counts) (rest-is p b item.Stopped e l ∙ sym (rest-is p b item.Stopped e (run ++ l)));
  }
