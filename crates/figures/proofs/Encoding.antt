-- Joined captures are read one by one, and every stream of bytes is joined captures and a rest. Assumes nothing.
use mathlib.Core.Path.{◌≡◌, refl, sym, ◌∙◌}
use mathlib.Core.Bool.{Bool, true, false}
use mathlib.Core.List.{List, [], ◌∷◌, ◌++◌, append_assoc}
use Prim.Native.Nat.{ℕ, zero, suc, ◌+◌, ◌-◌, ◌*◌, ◌/◌, ◌%◌, ◌≤◌, ◌<◌}
use native.Mathlib.Omega.{arith}
use borrow.Author.Tests.{lt-ltb, le-leb, lt-leb, ltb-true, ltb-false, leb-true, leb-false}
use lib.Dec.{ltb, leb}
use lib.ListN.{length, get_or, take, drop, length-drop, take-append-drop}
use lib.Seq.{take_all, get_or-drop, length-take-le}
use Rattle.theory.specs.Logic.{when◌then◌else◌, unless◌answer◌then◌}
use Rattle.theory.proofs.Tests.{by_cases}
use Rattle.wire.specs.Le.{le, bytes, number}
use Rattle.wire.proofs.Le.{length-bytes, le_bytes, number-below}
use Rattle.stream.specs.Stream.{Captures, whole, torn, capture, long, capture_then, captures_in}
use Rattle.stream.proofs.Rest.{capture-come, long-come, long-opened, length-come}
use Rattle.figures.specs.Encoding.{encoded, Encodable, Left, nothing, in_length, in_capture, Ending, fewer, as_many, is_long, Apart}

-- ---- joined captures are read one by one ----

-- these captures, and the end
unfoldable pub captures_of : List (List ℕ) → Bool → Captures
captures_of [] true = whole
captures_of [] false = torn
captures_of (c ∷ cs) ended = when is_long c then long (captures_of cs ended) else capture c (captures_of cs ended)

number-bytes : (k : ℕ) → k < 4294967296 → number 0 4 (bytes 4 k) ≡ k
unfolding number
number-bytes k h = rw (take_all 4 (bytes 4 k) (omega (arith, length-bytes 4 k))) (le_bytes 4 k h)

module _ (n : ℕ) (c l : List ℕ) (h : length c < 4294967296) where
  one-come : captures_in (suc n) (bytes 4 (length c) ++ (c ++ l))
      ≡ (when is_long c then long (captures_in n l) else capture c (captures_in n l))
  unfolding is_long when◌then◌else◌
  one-come =
      let z : suc n - 1 ≡ n = omega arith in
      length-come (suc n) (bytes 4 (length c)) (c ++ l) (length-bytes 4 (length c)) (omega arith)
      ∙ rw (number-bytes (length c) h, z) (by_cases (ltb 4064 (length c))
      (λ e.
      let k : 4064 < length c = ltb-true _ _ e in
      rw e (long-opened (length c) (c ++ l) (captures_in n) (lt-leb (length c) 4064 k)
      ∙ long-come (length c) c l (captures_in n) refl))
      (λ e. rw e (capture-come (length c) c l (captures_in n) refl (ltb-false _ _ e))))

left-none : (n : ℕ) (rest : List ℕ) (ended : Bool) → Left rest ended → captures_in (suc n) rest ≡ captures_of [] ended
unfolding captures_in captures_of unless◌answer◌then◌ capture_then
left-none n rest ended nothing = refl
left-none n rest ended (in_length h k) = rw (lt-ltb 0 (length rest) h, lt-leb 4 (length rest) k)
left-none n rest ended (in_capture h k) =
    let s : 0 < length rest = omega arith in
    let d : length (drop 4 rest) < number 0 4 rest = rw length-drop (omega arith) in
    rw (lt-ltb 0 (length rest) s, le-leb 4 (length rest) h, lt-leb (number 0 4 rest) (length (drop 4 rest)) d)

taken_none : (n : ℕ) (rest : List ℕ) (ended : Bool) → Ending n [] rest ended → captures_in n rest ≡ captures_of [] ended
unfolding captures_in captures_of
taken_none zero rest ended (fewer h l) = absurd (omega arith)
taken_none zero rest ended (as_many e) = refl
taken_none (suc n) rest ended (fewer h l) = left-none n rest ended l
taken_none (suc n) rest ended (as_many e) = absurd (omega arith)

some_left : (n : ℕ) (c : List ℕ) (cs : List (List ℕ)) (rest : List ℕ) (ended : Bool) → Ending n (c ∷ cs) rest ended → 0 < n
some_left n c cs rest ended (fewer h l) = omega arith
some_left n c cs rest ended (as_many e) = omega arith

one_less : (n : ℕ) (c : List ℕ) (cs : List (List ℕ)) (rest : List ℕ) (ended : Bool)
    → Ending (suc n) (c ∷ cs) rest ended → Ending n cs rest ended
one_less n c cs rest ended (fewer h l) = fewer {n = n} {cs = cs} (omega arith) l
one_less n c cs rest ended (as_many e) = as_many {n = n} {cs = cs} (omega arith)

pub taken : (cs : List (List ℕ)) (n : ℕ) (rest : List ℕ) (ended : Bool) → Encodable cs → Ending n cs rest ended
    → captures_in n (encoded cs ++ rest) ≡ captures_of cs ended
unfolding encoded captures_of
taken [] n rest ended f e = taken_none n rest ended e
taken (c ∷ cs) zero rest ended f e = absurd (omega (arith, some_left 0 c cs rest ended e))
taken (c ∷ cs) (suc n) rest ended f e =
    let g : Encodable cs = record { at = λ i. f.at (suc i) } in
    rw (append_assoc (bytes 4 (length c)) (c ++ encoded cs) rest, append_assoc c (encoded cs) rest)
    (one-come n c (encoded cs ++ rest) (f.at 0) ∙ rw (taken cs n rest ended g (one_less n c cs rest ended e)))

-- ---- every stream ----

bytes-number : (n : ℕ) (l : List ℕ) → ((i : ℕ) → get_or l i 0 < 256) → n ≤ length l → bytes n (number 0 n l) ≡ take n l
unfolding bytes number le
bytes-number zero l small h = refl
bytes-number (suc n) [] small h = absurd (omega arith)
bytes-number (suc n) (b ∷ l) small h =
    let low : (b + 256 * le (take n l)) % 256 ≡ b = omega (arith, small 0) in
    let high : (b + 256 * le (take n l)) / 256 ≡ le (take n l) = omega (arith, small 0) in
    rw (low, high, bytes-number n l (λ i. small (suc i)) (omega arith))

one_more : (n : ℕ) (c : List ℕ) (cs : List (List ℕ)) (rest : List ℕ) (ended : Bool)
    → Ending n cs rest ended → Ending (suc n) (c ∷ cs) rest ended
one_more n c cs rest ended (fewer h l) = fewer {n = suc n} {cs = c ∷ cs} (omega arith) l
one_more n c cs rest ended (as_many e) = as_many {n = suc n} {cs = c ∷ cs} (omega arith)

none_before : (n : ℕ) (l : List ℕ) (ended : Bool) → Ending n [] l ended → Apart n l
unfolding encoded
none_before n l ended e = record {
  captures = [];
  rest = l;
  ended = ended;
  fit = record { at = λ i. omega arith };
  ending = e;
  joined = refl;
}

-- the first capture, and what follows it
abbrev first : List ℕ → List ℕ
first l = take (number 0 4 l) (drop 4 l)

abbrev others : List ℕ → List ℕ
others l = drop (number 0 4 l) (drop 4 l)

others-small : (l : List ℕ) → ((i : ℕ) → get_or l i 0 < 256) → (i : ℕ) → get_or (others l) i 0 < 256
others-small l small i =
    rw (get_or-drop (number 0 4 l) (drop 4 l) i 0, get_or-drop 4 l (number 0 4 l + i) 0) (small (4 + (number 0 4 l + i)))

module _ (n : ℕ) (l : List ℕ) (small : (i : ℕ) → get_or l i 0 < 256) (h : 4 ≤ length l) (k : 4 + number 0 4 l ≤ length l) where
  first-long : length (first l) ≡ number 0 4 l
  first-long = length-take-le (number 0 4 l) (drop 4 l) (rw length-drop (omega arith))

  one-before : Apart n (others l) → Apart (suc n) l
  unfolding encoded
  one-before a = record {
    captures = first l ∷ a.captures;
    rest = a.rest;
    ended = a.ended;
    fit = record { at = fits };
    ending = one_more n (first l) a.captures a.rest a.ended a.ending;
    joined = sym (append_assoc (bytes 4 (length (first l))) (first l ++ encoded a.captures) a.rest
        ∙ rw (
          append_assoc (first l) (encoded a.captures) a.rest,
          ← a.joined,
          first-long,
          take-append-drop (number 0 4 l) (drop 4 l),
          bytes-number 4 l small h,
        ) (take-append-drop 4 l));
  }
    where
      fits : (i : ℕ) → length (get_or (first l ∷ a.captures) i []) < 4294967296
      fits zero = omega (arith, first-long, number-below l small 4 0)
      fits (suc i) = a.fit.at i

left_here : (n : ℕ) (l : List ℕ) (ended : Bool) → Left l ended → Apart (suc n) l
left_here n l ended t = none_before (suc n) l ended (fewer {n = suc n} {cs = []} (omega arith) t)

pub apart : (n : ℕ) (l : List ℕ) → ((i : ℕ) → get_or l i 0 < 256) → Apart n l
apart zero l small = none_before 0 l false (as_many refl)
apart (suc n) [] small = left_here n [] true nothing
apart (suc n) (b ∷ l) small =
    by_cases (leb 4 (length (b ∷ l)))
    (λ e.
    let h : 4 ≤ length (b ∷ l) = leb-true _ _ e in
    by_cases (leb (4 + number 0 4 (b ∷ l)) (length (b ∷ l)))
    (λ f. one-before n (b ∷ l) small h (leb-true _ _ f)
    (apart n (others (b ∷ l)) (others-small (b ∷ l) small)))
    (λ f. left_here n (b ∷ l) false (in_capture h (leb-false _ _ f))))
    (λ e. left_here n (b ∷ l) false (in_length (omega arith) (leb-false _ _ e)))
