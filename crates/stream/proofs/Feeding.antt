-- The loop over a chunk, the start and the end of a stream. Assumes nothing.
use mathlib.Core.Path.{◌≡◌, refl, ap, sym, ◌∙◌}
use mathlib.Core.Bool.{Bool}
use mathlib.Core.List.{List, [], ◌++◌, append_assoc}
use Prim.Native.Nat.{ℕ, min, ◌-◌, ◌≤◌, ◌<◌, ◌^◌}
use native.Mathlib.Nat.{le_refl}
use native.Mathlib.Omega.{arith}
use borrow.Author.Tests.{ne_eqb, le-leb, lt-leb, lt-ltb}
use lib.ListN.{length, take, drop, replicate, take-append-drop}
use lib.Seq.{length-take-le}
use Rattle.std.proofs.lemmas.List.{nil_from_length}
use Rattle.theory.specs.Logic.{when◌then◌else◌}
use Rattle.theory.specs.Bytes.{put}
use Rattle.tally.specs.Counts.{◌plus◌, Below}
use Rattle.tally.specs.Rows.{row_count, longest, adds_of}
use Rattle.tally.proofs.Plus.{below_more}
use Rattle.sheet.specs.Text.{figures, text_of}
use Rattle.stream.specs.Progress.{figures_from, started, ended, finished_of, Counted, Ready, Took, Run}
use Rattle.stream.specs.Steps.{progress, awaiting, opened, skipped}
use Rattle.stream.specs.declared.Item.TheVariants as item
use Rattle.stream.specs.declared.Progress.{Progress}
use Rattle.stream.proofs.Totals.{counts-room}

-- ---- the loop ----

-- what is left of the chunk, and what follows, give the figures that the whole chunk and what follows give
pub record Along (q : ℕ) (features : List ℕ) (p : Progress) (b chunk : List ℕ) (s : Progress) (buffer rest : List ℕ) : Type 0 where
  pub long : length buffer ≡ length b
  pub ready : Ready s buffer
  pub same : (l : List ℕ) → figures_from q features s buffer (rest ++ l) ≡ figures_from q features p b (chunk ++ l)

pub along-start : (q : ℕ) (features : List ℕ) (p : Progress) (b chunk : List ℕ) → Ready p b → Along q features p b chunk p b chunk
along-start q features p b chunk w = record { long = refl; ready = w; same = λ l. refl }

module _ (q : ℕ) (features : List ℕ) (p : Progress) (b chunk : List ℕ) (s : Progress) (buffer rest : List ℕ)
    (a : Along q features p b chunk s buffer rest) where
  -- a run is as much of the rest as the item still takes
  pub run_fits : (run : List ℕ) (n : ℕ) → 0 < length rest → n ≡ min s.left (length rest) → run ≡ take n rest → Run s.left (length run) (length run)
  run_fits run n h e f =
      let l : length run ≡ n = rw f (length-take-le n rest (omega arith)) in
      let more : 0 < s.left = a.ready.more in
      record { some = omega arith; item = omega arith; chunk = le_refl (length run) }

  pub along-on : (run after : List ℕ) (n : ℕ) (r : Progress) (held : List ℕ) → run ≡ take n rest → after ≡ drop n rest
      → Took q features s buffer run r held → length held ≡ length buffer → Along q features p b chunk r held after
  along-on run after n r held e f t l =
      let cut : run ++ after ≡ rest = rw (e, f) (take-append-drop n rest) in
      record {
        long = l ∙ a.long;
        ready = t.ready;
        same = λ x. t.same (after ++ x) ∙ ap (figures_from q features s buffer) (sym (append_assoc run after x) ∙ ap (◌++ x) cut) ∙ a.same x;
      }

  pub along-end : length rest ≡ 0 → Took q features p b chunk s buffer
  along-end h = record { ready = a.ready; same = λ l. ap (λ x. figures_from q features s buffer (x ++ l)) (sym (nil_from_length rest h)) ∙ a.same l }

-- ---- the sheet ----

pub counts-fit : (counts : List ℕ) → Counted counts → Below (2 ^ 64) counts
counts-fit counts w = below_more (2 ^ 62) (2 ^ 64) counts (counts-room counts w) (omega arith)

module _ (p : Progress) (w : Bool) (e : w ≡ ended p) where
  pub finish-put : (out after : List ℕ) → after ≡ put 0 (text_of (figures p.counts w)) out → after ≡ put 0 (finished_of p) out
  unfolding finished_of
  finish-put out after f = rw e at f

  pub finish-length : (r : ℕ) → r ≡ length (text_of (figures p.counts w)) → r ≡ length (finished_of p)
  unfolding finished_of
  finish-length r f = rw e at f

pub starts : (r : Progress) → r ≡ awaiting (replicate row_count 0) → r ≡ started
unfolding awaiting when◌then◌else◌
starts r e = e

pub closes : (r : Progress) (x y : List ℕ) → r ≡ awaiting x → x ≡ y → r ≡ awaiting y
closes r x y e f = rw (← f) e

-- n is the length that was read, x what it is in the definition
module _ (q : ℕ) (features counts : List ℕ) (n x : ℕ) (e : n ≡ x) where
  pub opened-empty : (r : Progress) → r ≡ awaiting (counts plus adds_of q features []) → n ≡ 0 → r ≡ opened q features counts x
  unfolding opened when◌then◌else◌
  opened-empty r f h = rw (← e, h) f

  pub opened-held : (r : Progress) → r ≡ progress item.Capture 0 n counts → (n ≡ 0 → ⊥) → n ≤ longest → r ≡ opened q features counts x
  unfolding opened when◌then◌else◌
  opened-held r f h k = f ∙ rw (← e, ne_eqb n 0 h, le-leb n longest k)

  pub opened-long : (r : Progress) → r ≡ progress item.Skipped 0 n counts → (n ≡ 0 → ⊥) → longest < n → r ≡ opened q features counts x
  unfolding opened when◌then◌else◌
  opened-long r f h k = f ∙ rw (← e, ne_eqb n 0 h, lt-leb n longest k)

pub skips : (p : Progress) (n : ℕ) (r : Progress) → r ≡ progress item.Skipped 0 (p.left - n) p.counts → n < p.left → r ≡ skipped p n
unfolding skipped when◌then◌else◌
skips p n r e h = e ∙ rw (lt-ltb n p.left h)
