-- However a stream is cut, what is fed and finished gives the sheet of the whole: an induction over the chunks. Assumes nothing.
use mathlib.Core.Path.{◌≡◌, refl, ap, sym, ◌∙◌}
use mathlib.Core.Bool.{true, false}
use mathlib.Core.List.{List, [], ◌++◌, append_assoc, append-nil}
use Prim.Native.Nat.{ℕ, ◌+◌, ◌<◌}
use native.Mathlib.Omega.{arith}
use borrow.Author.Tests.{ne_eqb}
use lib.Dec.{eqb}
use lib.ListN.{length, take}
use lib.Seq.{take_all, length-take-le}
use Rattle.theory.specs.Logic.{when◌then◌else◌, unless◌answer◌then◌}
use Rattle.theory.proofs.Tests.{by_cases, and-false, false-and}
use Rattle.setups.specs.Setup.{features_size}
use Rattle.setups.specs.Reading.{version_in, head_size, head_right, is_version1, take_version1, read_version1}
use Rattle.tally.specs.Rows.{longest}
use Rattle.sheet.specs.Text.{text_of}
use Rattle.stream.specs.Progress as captures
use Rattle.stream.proofs.Ends.{at-end, stopped-same}
use Rattle.figures.specs.Sheet.{setup_size, refused_text, sheet_under, sheet_of}
use Rattle.figures.specs.State.{waiting, sheet_from, finished_of, over, Ready}
use Rattle.figures.specs.Claims.{Fed, none, next, joined, HoweverCut}
use Rattle.figures.specs.declared.State.{State}
use Rattle.figures.specs.declared.State.TheVariants as state
use Rattle.figures.proofs.Taking.{waiting-ready}

-- ---- under 19 bytes ----

no-version-1 : (l : List ℕ) → length l < setup_size → is_version1 l ≡ false
unfolding is_version1
no-version-1 l h =
    let n : length l ≡ head_size + features_size → ⊥ = λ e. omega arith in
    rw (ne_eqb (length l) (head_size + features_size) n, and-false (eqb (version_in l) 1)) (false-and (head_right l))

short-refused : (l rest : List ℕ) → length l < setup_size → sheet_under (read_version1 l) rest ≡ refused_text
unfolding read_version1 take_version1 when◌then◌else◌ unless◌answer◌then◌
short-refused l rest h = by_cases (eqb (version_in l) 2) (λ e. rw e) (λ e. rw (e, no-version-1 l h))

short-sheet : (l : List ℕ) → length l < setup_size → sheet_of l ≡ refused_text
unfolding sheet_of
short-sheet l h = rw (take_all setup_size l (omega arith)) (short-refused l _ h)

-- ---- the end, and nothing more ----

ends-here : (s : State) (b : List ℕ) → Ready s b → sheet_from s b [] ≡ finished_of s
unfolding captures.finished_of
ends-here (state.Setup have) b w =
    let h : have < setup_size = w.standing in
    let n : length (take have b) ≡ have = length-take-le have b (omega (arith, w.room)) in
    rw append-nil (short-sheet (take have b) (omega arith))
ends-here (state.Captures queues features p) b w = ap text_of (at-end queues features p b w.standing)
ends-here state.Refused b w = refl

over-same : (s : State) (b l : List ℕ) → over s ≡ true → sheet_from s b l ≡ sheet_from s b []
over-same (state.Setup have) b l h = cc
over-same (state.Captures queues features p) b l h = ap text_of (stopped-same queues features p b l h)
over-same state.Refused b l h = refl

-- ---- the chunks ----

fed-ready : {s r : State} {b after : List ℕ} {chunks : List (List ℕ)} → Fed s b chunks r after → Ready s b → Ready r after
fed-ready none w = w
fed-ready (next t f) w = fed-ready f t.ready

fed-same : {s r : State} {b after : List ℕ} {chunks : List (List ℕ)} → Fed s b chunks r after → (l : List ℕ)
    → sheet_from r after l ≡ sheet_from s b (joined chunks ++ l)
unfolding joined
fed-same none l = refl
fed-same {s} {b = b} (next {chunk = c} {chunks = cs} t f) l =
    fed-same f l ∙ t.same (joined cs ++ l) ∙ ap (sheet_from s b) (sym (append_assoc c (joined cs) l))

start-ready : (b : List ℕ) → length b ≡ longest → Ready (waiting 0) b
start-ready b h = waiting-ready 0 b h (omega arith)

module _ (b : List ℕ) (chunks : List (List ℕ)) (r : State) (after : List ℕ) (h : length b ≡ longest)
    (f : Fed (waiting 0) b chunks r after) where
  ends : finished_of r ≡ sheet_of (joined chunks)
  ends = sym (ends-here r after (fed-ready f (start-ready b h))) ∙ fed-same f [] ∙ ap sheet_of (append-nil (joined chunks))

  stops : (l : List ℕ) → over r ≡ true → finished_of r ≡ sheet_of (joined chunks ++ l)
  stops l o = sym (ends-here r after (fed-ready f (start-ready b h))) ∙ sym (over-same r after l o) ∙ fed-same f l

pub however-cut : HoweverCut
however-cut = record {
  starts = start-ready;
  ends = λ b chunks r after h f. ends b chunks r after h f;
  stops = λ b chunks r after l h f o. stops b chunks r after h f l o;
}
