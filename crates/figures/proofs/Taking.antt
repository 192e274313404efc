-- What a chunk leaves, in each phase: laws for the needs and returns of the functions. Assumes nothing.
use mathlib.Core.Path.{◌≡◌, ap, sym, ◌∙◌}
use mathlib.Core.List.{List, ◌++◌, append_assoc}
use Rattle.std.proofs.Common.{Result, Ok, Err}
use Prim.Native.Nat.{ℕ, ◌+◌, ◌-◌, ◌≤◌, ◌<◌}
use native.Mathlib.Omega.{arith}
use lib.ListN.{length, take, drop, take-append-drop}
use lib.Seq.{take_at, drop_at, length-take-le}
use Rattle.theory.specs.Bytes.{put}
use Rattle.theory.proofs.Bytes.{length-put}
use Rattle.setups.specs.declared.Setup.{Setup}
use Rattle.setups.specs.declared.ReadRefusal.{ReadRefusal}
use Rattle.setups.specs.Reading.{read_version1}
use Rattle.tally.specs.Rows.{longest}
use Rattle.sheet.specs.Text.{text_of, sheet_room}
use Rattle.sheet.proofs.Lines.{text-short}
use Rattle.stream.specs.declared.Progress.{Progress}
use Rattle.stream.specs.Progress.{Counted}
use Rattle.stream.specs.Progress as captures
use Rattle.stream.proofs.Feeding.{counts-fit}
use Rattle.stream.proofs.Rest.{held_more}
use Rattle.stream.proofs.Ends.{started-ready, from_start}
use Rattle.figures.specs.Sheet.{setup_size, first_count, sheet_under, sheet_of}
use Rattle.figures.specs.State.{waiting, refused, counting, sheet_from, finished_of, CountedIn, Ready, Took, TookBehind}
use Rattle.figures.specs.declared.State.{State}

-- ---- states ----

pub waiting-ready : (have : ℕ) (b : List ℕ) → length b ≡ longest → have < setup_size → Ready (waiting have) b
waiting-ready have b h w = record { room = h; counted = tt; standing = w }

pub counting-ready : (q : ℕ) (features : List ℕ) (p : Progress) (b : List ℕ) → captures.Ready p b → Ready (counting q features p) b
counting-ready q features p b w = record { room = w.room; counted = w.counted; standing = w }

-- ---- captures ----

pub captures-taken : (q : ℕ) (features : List ℕ) (p : Progress) (b chunk : List ℕ) (r : Progress) (after : List ℕ)
    → captures.Took q features p b chunk r after → Took (counting q features p) b chunk (counting q features r) after
captures-taken q features p b chunk r after t =
    record { ready = counting-ready q features r after t.ready; same = λ l. ap text_of (t.same l) }

-- ---- the setup has come whole ----

-- x is a setup, l what follows it
pub sheet-behind : (x l : List ℕ) → length x ≡ setup_size → sheet_of (x ++ l) ≡ sheet_under (read_version1 x) l
unfolding sheet_of
sheet-behind x l e = rw (take_at x l setup_size e, drop_at x l setup_size e)

module _ (b rest : List ℕ) (h : length b ≡ longest) where
  setup-room : setup_size ≤ length b
  setup-room = omega arith

  pub open-ready : (q : ℕ) (features : List ℕ) (p : Progress) → p ≡ captures.started → Ready (counting q features p) b
  open-ready q features p e = rw e (counting-ready q features captures.started b (started-ready b h))

  front : (o : Result Setup ReadRefusal) → o ≡ read_version1 (take setup_size b) → (l : List ℕ)
      → sheet_under o l ≡ sheet_of (take setup_size b ++ l)
  front o e l = rw e (sym (sheet-behind (take setup_size b) l (length-take-le setup_size b setup-room)))

  pub open-refused : (x : ReadRefusal) (r : State) → Err x ≡ read_version1 (take setup_size b) → r ≡ refused → TookBehind b rest r b
  open-refused x r e z = rw z (record {
    ready = record { room = h; counted = tt; standing = tt };
    same = λ l. front (Err x) e (rest ++ l);
  })

  pub open-taken : (s : Setup) (p : Progress) (r : State) (after : List ℕ) → Ok s ≡ read_version1 (take setup_size b)
      → p ≡ captures.started → Took (counting (first_count s) s.features p) b rest r after → TookBehind b rest r after
  open-taken s p r after e z t = record {
    ready = t.ready;
    same = λ l.
        t.same l ∙ ap (λ x. sheet_from (counting (first_count s) s.features x) b (rest ++ l)) z
        ∙ ap text_of (from_start (first_count s) s.features b (rest ++ l)) ∙ front (Ok s) e (rest ++ l);
  }

-- ---- the end ----

finished-fits : (p : Progress) (r : ℕ) → r ≡ length (captures.finished_of p) → Counted p.counts → r ≤ sheet_room
unfolding captures.finished_of
finished-fits p r e w = omega (arith, text-short p.counts (counts-fit p.counts w) (captures.ended p))

pub captures-finish : (s : State) (q : ℕ) (features : List ℕ) (p : Progress) (out after : List ℕ) (r : ℕ)
    → s ≡ counting q features p → CountedIn s → after ≡ put 0 (captures.finished_of p) out → r ≡ length (captures.finished_of p)
    → (after ≡ put 0 (finished_of s) out) × (r ≡ length (finished_of s)) × (r ≤ sheet_room)
captures-finish s q features p out after r e w f g =
    let v : Counted p.counts = rw e at w in
    rw e (f, g, finished-fits p r g v)

-- ---- a chunk ----

-- bytes of the setup
module _ (have : ℕ) (b chunk : List ℕ) (w : Ready (waiting have) b) where
  have-less : have < setup_size
  have-less = w.standing

  pub setup-left : have ≤ setup_size
  setup-left = omega (arith, have-less)

  short-room : length chunk < setup_size - have → have + length chunk ≤ length b
  short-room k = omega (arith, w.room)

  pub setup-more : (after : List ℕ) (r : State) → after ≡ put have chunk b → r ≡ waiting (have + length chunk)
      → length chunk < setup_size - have → Took (waiting have) b chunk r after
  setup-more after r put-there z k =
      let held = held_more have chunk b after put-there (short-room k) in
      rw z (record {
        ready = waiting-ready (have + length chunk) after (rw (put-there, length-put) w.room) (omega arith);
        same = λ l. rw (held, append_assoc);
      })

  module _ (k : setup_size - have ≤ length chunk) where
    -- the part of the chunk that is still of the setup, and what follows it
    module _ (piece rest : List ℕ) (ep : piece ≡ take (setup_size - have) chunk) (er : rest ≡ drop (setup_size - have) chunk) where
      chunk-is : piece ++ rest ≡ chunk
      chunk-is = rw (ep, er) (take-append-drop (setup_size - have) chunk)

      piece-long : length piece ≡ setup_size - have
      piece-long = rw ep (length-take-le (setup_size - have) chunk k)

      pub whole_room : have + length piece ≤ length b
      whole_room = omega (arith, w.room, piece-long, have-less)

      module _ (after : List ℕ) (put-there : after ≡ put have piece b) where
        setup-held : take setup_size after ≡ take have b ++ piece
        setup-held =
            let n : have + length piece ≡ setup_size = omega (arith, piece-long, have-less) in
            rw n at (held_more have piece b after put-there whole_room)

        pub setup-whole : (r : State) (end : List ℕ) → TookBehind after rest r end → Took (waiting have) b chunk r end
        setup-whole r end t = record { ready = t.ready; same = λ l. t.same l ∙ ap sheet_of (joined-there l) }
          where
            joined-there : (l : List ℕ) → take setup_size after ++ (rest ++ l) ≡ take have b ++ (chunk ++ l)
            joined-there l =
                ap (◌++ (rest ++ l)) setup-held ∙ append_assoc (take have b) piece (rest ++ l)
                ∙ ap (take have b ++◌) (sym (append_assoc piece rest l) ∙ ap (◌++ l) chunk-is)
