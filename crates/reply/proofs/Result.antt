-- The result of each body: its length, and its bytes at the front of the lent tail. Assumes nothing.
use mathlib.Core.Path.{◌≡◌, refl, sym, ◌∙◌}
use mathlib.Core.List.{List, ◌∷◌, ◌++◌}
use Prim.Native.Nat.{ℕ, ◌+◌, ◌≤◌, ◌<◌}
use native.Mathlib.Omega.{arith}
use lib.ListN.{length, replicate, length-append}
use mir.Syntax.{w64}
use mir.Val.{Fits}
use Rattle.theory.specs.Bytes.{put}
use Rattle.theory.proofs.Bytes.{put-nil, put-append}
use Rattle.wire.specs.Le.{bytes}
use Rattle.inventory.specs.Inventory.{part_count, parts_size, values_size}
use Rattle.capture.specs.Capture.{Asked, headers_of, parts_written, capture_of, CaptureFits}
use Rattle.capture.proofs.Sizes.{capture-length, headers-length}
use Rattle.protocol.specs.declared.ObjectKind.{ObjectKind}
use Rattle.protocol.specs.declared.ObjectKind.TheVariants.{Get, Set}
use Rattle.protocol.specs.Answers.{kind_number}
use Rattle.protocol.specs.declared.Body.{Body}
use Rattle.protocol.specs.declared.Body.TheVariants.{Nothing, Kind, Number, Headers, Selected}
use Rattle.protocol.specs.declared.Body.TheVariants as body
use Rattle.reply.specs.Result.{number_bytes, result_of}

pub number-long : (n : ℕ) → length (number_bytes n) ≡ 8
unfolding number_bytes bytes
number-long n = refl

-- ---- the length, by the body ----

module _ (q : ℕ) (list : List ℕ) (b : Body) where
  pub size-nothing : b ≡ Nothing → (v : List ℕ) → length v ≡ values_size → 0 ≡ length (result_of q list v b)
  unfolding result_of
  size-nothing e v h = rw e

  pub size-kind : (k : ObjectKind) → b ≡ Kind k → (v : List ℕ) → length v ≡ values_size → 8 ≡ length (result_of q list v b)
  unfolding result_of
  size-kind k e v h = rw e

  pub size_number : (n : ℕ) → b ≡ Number n → (v : List ℕ) → length v ≡ values_size → 8 ≡ length (result_of q list v b)
  unfolding result_of
  size_number n e v h = rw e (sym (number-long n))

  pub size-headers : (n : ℕ) → b ≡ Headers → n ≡ length (headers_of q)
      → (v : List ℕ) → length v ≡ values_size → 8 + n ≡ length (result_of q list v b)
  unfolding result_of
  size-headers n e f v h = rw (e, f, length-append, number-long (part_count q))

  pub size-selected : (n : ℕ) → b ≡ Selected → ((v : List ℕ) → length v ≡ values_size → n ≡ length (parts_written Asked q list v))
      → (v : List ℕ) → length v ≡ values_size → n ≡ length (result_of q list v b)
  unfolding result_of
  size-selected n e f v h = rw e (f v h)

  pub size-all : (n : ℕ) → b ≡ body.All → q < 5 → n ≡ parts_size q → (v : List ℕ) → length v ≡ values_size → n ≡ length (result_of q list v b)
  unfolding result_of
  size-all n e k f v h = rw e (f ∙ sym (capture-length q v k h))

pub headers-fit : (q n : ℕ) → q < 5 → n ≡ length (headers_of q) → Fits w64 (8 + n)
headers-fit q n h e = rw (e, headers-length q h) (omega arith)

-- ---- the bytes, by the body ----

-- two writes make a number and four zero bytes
pub number-written : (n : ℕ) (l l₁ l₂ : List ℕ) → l₁ ≡ put 0 (bytes 4 n) l → l₂ ≡ put 4 (bytes 4 0) l₁
    → l₂ ≡ put 0 (number_bytes n) l
unfolding number_bytes bytes
number-written n l l₁ l₂ e₁ e₂ = rw (e₂, e₁) (sym (put-append 0 (bytes 4 n) (replicate 4 0) l))

-- the count, then the headers in a tail of the tail
pub list_written : (q n : ℕ) (l l₁ l₂ : List ℕ) → n ≡ part_count q → l₁ ≡ put 0 (number_bytes n) l
    → l₂ ≡ put 8 (headers_of q) l₁ → l₂ ≡ put 0 (number_bytes (part_count q) ++ headers_of q) l
list_written q n l l₁ l₂ f h k =
    let x = number_bytes (part_count q) in
    rw (k, h, f) (sym (put-append 0 x (headers_of q) l ∙ rw (number-long (part_count q))))

kind-bytes : (k : ObjectKind) → number_bytes (kind_number k) ≡ kind_number k ∷ replicate 7 0
unfolding number_bytes bytes
kind-bytes Get = refl
kind-bytes Set = refl

module _ (q : ℕ) (list v : List ℕ) (b : Body) (l l' : List ℕ) where
  pub result-nothing : b ≡ Nothing → l ≡ put 0 (result_of q list v b) l
  unfolding result_of
  result-nothing e = rw (e, put-nil)

  pub result-kind : (k : ObjectKind) (x : ℕ) → b ≡ Kind k → x ≡ kind_number k → l' ≡ put 0 (number_bytes x) l
      → l' ≡ put 0 (result_of q list v b) l
  unfolding result_of
  result-kind k x e f h = h ∙ rw (e, f, kind-bytes k)

  pub result-number : (n : ℕ) → b ≡ Number n → l' ≡ put 0 (number_bytes n) l → l' ≡ put 0 (result_of q list v b) l
  unfolding result_of
  result-number n e h = h ∙ rw e

  pub result-headers : b ≡ Headers → l' ≡ put 0 (number_bytes (part_count q) ++ headers_of q) l → l' ≡ put 0 (result_of q list v b) l
  unfolding result_of
  result-headers e h = h ∙ rw e

  pub result-selected : b ≡ Selected → l' ≡ put 0 (parts_written Asked q list v) l → l' ≡ put 0 (result_of q list v b) l
  unfolding result_of
  result-selected e h = h ∙ rw e

  pub result-all : b ≡ body.All → l' ≡ put 0 (capture_of q v) l → l' ≡ put 0 (result_of q list v b) l
  unfolding result_of
  result-all e h = h ∙ rw e

-- ---- what fits, by the body ----

module _ (q : ℕ) (list v : List ℕ) (b : Body) (l : List ℕ) (fits : length (result_of q list v b) ≤ length l) where
  pub fits-kind : (k : ObjectKind) → b ≡ Kind k → 8 ≤ length l
  unfolding result_of
  fits-kind k e = rw e at fits

  pub fits-number : (n : ℕ) → b ≡ Number n → 8 ≤ length l
  unfolding result_of
  fits-number n e = rw (e, number-long n) at fits

  pub fits-headers : b ≡ Headers → 8 + length (headers_of q) ≤ length l
  unfolding result_of
  fits-headers e = rw (e, length-append, number-long (part_count q)) at fits

  pub fits-selected : b ≡ Selected → length (parts_written Asked q list v) ≤ length l
  unfolding result_of
  fits-selected e = rw e at fits

  pub fits_all : b ≡ body.All → q < 5 → length v ≡ values_size → CaptureFits q v l
  unfolding result_of
  fits_all e k h = record { few = k; long = h; room = rw (e, capture-length q v k h) at fits }
