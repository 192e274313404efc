-- A response, written field by field. Assumes nothing.
use Rattle.std.proofs.Common.{◌≡◌, ℕ, ◌+◌, ◌<◌, ◌≤◌, List, ◌++◌, length, sym, refl, ◌∙◌, arith, length-append, le-leb}
use borrow.Author.Tests.{lt-leb}
use Rattle.theory.specs.Bytes.{put}
use Rattle.theory.proofs.Bytes.{put-append}
use Rattle.theory.proofs.Ladder.{pass, stop}
use Rattle.wire.specs.Le.{bytes}
use Rattle.message.specs.Format.{header_size, msg_id_of, dev_num_of, token_of, data_at, response_header, response_fields, response_of}
use Rattle.message.specs.Message.{sent_in}

pub header-written : (x : List ℕ) (size i d t : ℕ) (l l₁ l₂ l₃ l₄ l₅ : List ℕ) → i ≡ msg_id_of x → d ≡ dev_num_of x → t ≡ token_of x
    → l₁ ≡ put 0 (bytes 1 1) l → l₂ ≡ put 1 (bytes 1 i) l₁ → l₃ ≡ put 2 (bytes 2 d) l₂ → l₄ ≡ put 4 (bytes 2 t) l₃
    → l₅ ≡ put 6 (bytes 2 size) l₄ → l₅ ≡ put 0 (response_header x size) l
unfolding response_header bytes
header-written x size i d t l l₁ l₂ l₃ l₄ l₅ ei ed et e₁ e₂ e₃ e₄ e₅ =
    let y₄ = bytes 2 (token_of x) ++ bytes 2 size in
    let y₃ = bytes 2 (dev_num_of x) ++ y₄ in
    let y₂ = bytes 1 (msg_id_of x) ++ y₃ in
    let m₁ = put 0 (bytes 1 1) l in
    let m₂ = put 1 (bytes 1 (msg_id_of x)) m₁ in
    let m₃ = put 2 (bytes 2 (dev_num_of x)) m₂ in
    rw (e₅, e₄, e₃, e₂, e₁, ei, ed, et)
    (sym (put-append 0 (bytes 1 1) y₂ l ∙ put-append 1 (bytes 1 (msg_id_of x)) y₃ m₁ ∙ put-append 2 (bytes 2 (dev_num_of x)) y₄ m₂
    ∙ put-append 4 (bytes 2 (token_of x)) (bytes 2 size) m₃))

pub fields-written : (generation offset n : ℕ) (l l₁ l₂ l₃ : List ℕ)
    → l₁ ≡ put 8 (bytes 4 generation) l → l₂ ≡ put 12 (bytes 4 offset) l₁ → l₃ ≡ put 16 (bytes 4 n) l₂
    → l₃ ≡ put 8 (response_fields generation offset n) l
unfolding response_fields bytes
fields-written generation offset n l l₁ l₂ l₃ e₁ e₂ e₃ =
    let y = bytes 4 offset ++ bytes 4 n in
    let m = put 8 (bytes 4 generation) l in
    rw (e₃, e₂, e₁) (sym (put-append 8 (bytes 4 generation) y l ∙ put-append 12 (bytes 4 offset) (bytes 4 n) m))

-- ---- the whole ----

header-long : (x : List ℕ) (size : ℕ) → length (response_header x size) ≡ header_size
unfolding response_header bytes
header-long x size = refl

fields-long : (generation offset n : ℕ) → length (response_fields generation offset n) ≡ 12
unfolding response_fields bytes
fields-long generation offset n = refl

module _ (x : List ℕ) (generation offset : ℕ) (bs : List ℕ) where
  pub response-long : length (response_of x generation offset bs) ≡ data_at + length bs
  unfolding response_of
  response-long = rw (length-append, length-append, header-long, fields-long) (omega arith)

  module _ (l : List ℕ) where
    pub response-short : length l < data_at + length bs → (0, l) ≡ sent_in (response_of x generation offset bs) l
    unfolding sent_in
    response-short h =
        let k : length l < length (response_of x generation offset bs) = rw response-long h in
        stop _ _ _ _ (lt-leb _ _ k) refl

    pub response-written : (l₁ l₂ l₃ : List ℕ) → data_at + length bs ≤ length l → l₁ ≡ put 0 (response_header x (data_at + length bs)) l
        → l₂ ≡ put header_size (response_fields generation offset (length bs)) l₁ → l₃ ≡ put data_at bs l₂
        → (data_at + length bs, l₃) ≡ sent_in (response_of x generation offset bs) l
    unfolding sent_in response_of
    response-written l₁ l₂ l₃ h e₁ e₂ e₃ =
        let y = response_header x (data_at + length bs) in
        let z = response_fields generation offset (length bs) in
        let k : length (y ++ (z ++ bs)) ≡ data_at + length bs = response-long in
        let p : put 0 (y ++ (z ++ bs)) l ≡ put header_size (z ++ bs) (put 0 y l) =
        put-append 0 y (z ++ bs) l ∙ rw (header-long x (data_at + length bs)) in
        let q : put header_size (z ++ bs) (put 0 y l) ≡ put data_at bs (put header_size z (put 0 y l)) =
        put-append header_size z bs (put 0 y l) ∙ rw (fields-long generation offset (length bs)) in
        let f : length (y ++ (z ++ bs)) ≤ length l = rw k h in
        pass _ _ _ _ (le-leb _ _ f) (rw (k, e₃, e₂, e₁, p, q))
