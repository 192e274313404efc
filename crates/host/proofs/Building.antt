-- Laws of a request's bytes for the code that writes them. Assumes nothing.
use mathlib.Core.Path.{◌≡◌, refl, ap, sym, ◌∙◌}
use mathlib.Core.Bool.{true, false}
use mathlib.Core.List.{List, [], ◌++◌, append-nil}
use Prim.Native.Nat.{ℕ, ◌+◌, ◌*◌, ◌-◌, ◌^◌, ◌≤◌, ◌<◌}
use native.Mathlib.Omega.{arith}
use mir.Val.{Fits}
use mir.Syntax.{w64}
use borrow.Author.Tests.{le-leb, lt-leb, leb-true}
use lib.Dec.{leb}
use lib.ListN.{length, take, replicate, length-append}
use Rattle.theory.specs.Logic.{unless◌answer◌then◌, ◌and◌}
use Rattle.theory.specs.Bytes.{put}
use Rattle.theory.proofs.Tests.{by_cases, both, and_i}
use Rattle.theory.proofs.Bytes.{length-put, put-append}
use Rattle.theory.proofs.Ladder.{pass, stop, and_left, and_right}
use Rattle.wire.specs.Le.{bytes}
use Rattle.wire.proofs.Le.{bytes-append, take-bytes, length-bytes}
use Rattle.protocol.specs.Opcodes.{longest_fixed, opcode_row, supported, fixed_size}
use Rattle.frame.specs.Frame.{data_at, longest, kind_at}
use Rattle.host.specs.declared.Command.{Command}
use Rattle.host.specs.declared.Sent.{Sent}
use Rattle.host.specs.Request.{sent_of, object_header, before, fixed_of, request, start_with, start_of, request_of, StartFits, begun, built}
use Rattle.host.proofs.Request.{command-supported, place_inside, place-low, fixed-most, start-long, list-none, list-given}

-- ---- the start of a request, in four writes ----

-- opcode, group type and reserved bytes
front : (op : ℕ) → op < 65536 → bytes 16 (65536 + op) ≡ bytes 2 op ++ (bytes 2 1 ++ replicate 12 0)
unfolding bytes
front op h =
    let e : 65536 + op ≡ op + 256 ^ 2 * 1 = omega arith in
    ap (bytes 16) e ∙ bytes-append 2 14 op 1 h ∙ refl

-- the object header and the flags
object-is : (id : ℕ) → id < 4294967296 → bytes 16 (4294967296 * id) ≡ object_header id ++ replicate 8 0
unfolding object_header bytes
object-is id h =
    let e : 4294967296 * id ≡ 0 + 256 ^ 4 * (id + 256 ^ 4 * 0) = omega arith in
    ap (bytes 16) e ∙ bytes-append 4 12 0 (id + 256 ^ 4 * 0) (omega arith)
    ∙ ap (bytes 4 0 ++◌) (bytes-append 4 8 id 0 h) ∙ refl

before-is : (s : Sent) → s.place ≤ kind_at → s.id < 4294967296 → bytes s.place (4294967296 * s.id) ≡ before s
unfolding before
before-is s h k = sym (take-bytes s.place 16 (4294967296 * s.id) h) ∙ ap (take s.place) (object-is s.id k)

frame-written : (op m k : ℕ) (x y b : List ℕ) → length x ≡ k
    → put (24 + k) y (put 24 x (put 16 (bytes 8 m) (put 0 (bytes 2 op ++ (bytes 2 1 ++ replicate 12 0)) b))) ≡ put 0 (request op 1 m (x ++ y)) b
unfolding request bytes
frame-written op m k x y b e =
    let f = bytes 2 op ++ (bytes 2 1 ++ replicate 12 0) in
    sym (put-append 0 f (bytes 8 m ++ (x ++ y)) b
    ∙ put-append 16 (bytes 8 m) (x ++ y) (put 0 f b)
    ∙ put-append 24 x y (put 16 (bytes 8 m) (put 0 f b))
    ∙ ap (λ (n : ℕ). put (24 + n) y (put 24 x (put 16 (bytes 8 m) (put 0 f b)))) e)

module _ (s : Sent) (fixed : ℕ) (b o₁ o₂ o₃ o₄ : List ℕ) where
  pub start-written : StartFits s fixed b → o₁ ≡ put 0 (bytes 16 (65536 + s.opcode)) b → o₂ ≡ put 16 (bytes 8 s.member) o₁
      → o₃ ≡ put 24 (bytes s.place (4294967296 * s.id)) o₂ → o₄ ≡ put (24 + s.place) (bytes (fixed - s.place) s.value) o₃
      → s.opcode < 65536 → s.id < 4294967296 → o₄ ≡ put 0 (start_with s) b
  unfolding start_with fixed_of
  start-written f e₁ e₂ e₃ e₄ h k =
      let p = before-is s f.object k in
      let l : length (before s) ≡ s.place = ap length (sym p) ∙ length-bytes s.place (4294967296 * s.id) in
      e₄ ∙ rw (e₃, e₂, e₁, p, front s.opcode h, f.told)
      (frame-written s.opcode s.member s.place (before s) (bytes (fixed_size s.opcode - s.place) s.value) b l)

-- ---- the numbers of a command ----

-- s was made for the case z
pub as-sent : (x z : Command) (s y : Sent) → s ≡ y → x ≡ z → y ≡ sent_of z → s ≡ sent_of x
as-sent x z s y e f g = e ∙ g ∙ ap sent_of (sym f)

module _ (x : Command) (s : Sent) (e : s ≡ sent_of x) where
  pub sent-supported : supported s.opcode ≡ true
  sent-supported = rw e (command-supported x)

  module _ (fixed : ℕ) (f : fixed ≡ fixed_size s.opcode) where
    fixed-small : fixed ≤ longest_fixed
    fixed-small = rw (f, e) (fixed-most x)

    pub fixed-within : fixed ≤ longest - data_at
    fixed-within = omega (arith, fixed-small)

    pub start-sum : Fits w64 (data_at + fixed)
    start-sum = record { fits = omega (arith, fixed-small) }

    pub request-sum : (list : ℕ) → list ≤ longest - data_at - fixed → Fits w64 (data_at + fixed + list)
    request-sum list h = record { fits = omega (arith, fixed-small) }

    start_is : length (start_of x) ≡ data_at + fixed
    start_is = start-long x ∙ rw (f, e)

    module _ (list : ℕ) (b : List ℕ) where
      pub start_fits : data_at + fixed + list ≤ length b → StartFits s fixed b
      start_fits h = record { told = f; inside = rw (f, e) (place_inside x); object = rw e (place-low x); room = omega arith }

      pub too_long : longest - data_at - fixed < list → ◌≡◌ {A = ℕ × List ℕ} (0, b) (begun (length (start_of x) + list) (start_of x) b)
      unfolding begun
      too_long h =
          let l = fixed-small in
          stop _ _ _ _ (and_left _ _ (lt-leb (length (start_of x) + list) longest (omega (arith, start_is)))) refl

      pub no_room : length b < data_at + fixed + list → ◌≡◌ {A = ℕ × List ℕ} (0, b) (begun (length (start_of x) + list) (start_of x) b)
      unfolding begun
      no_room h = stop _ _ _ _ (and_right _ _ (lt-leb (length (start_of x) + list) (length b) (omega (arith, start_is)))) refl

      pub begun-now : (o : List ℕ) → o ≡ put 0 (start_with s) b → list ≤ longest - data_at - fixed → data_at + fixed + list ≤ length b
          → ◌≡◌ {A = ℕ × List ℕ} (data_at + fixed + list, o) (begun (length (start_of x) + list) (start_of x) b)
      unfolding begun
      begun-now o p h r =
          let l = fixed-small in
          let n : length (start_of x) + list ≡ data_at + fixed + list = omega (arith, start_is) in
          let q : o ≡ put 0 (start_of x) b = p ∙ rw e in
          pass _ _ _ _
          (and_i _ _ (le-leb (length (start_of x) + list) longest (omega arith)) (le-leb (length (start_of x) + list) (length b) (omega arith)))
          (rw (n, q))

-- ---- a request and its list ----

-- a request without one
pub alone : (x : Command) (b o : List ℕ) (r : ℕ) → ◌≡◌ {A = ℕ × List ℕ} (r, o) (begun (length (start_of x) + 0) (start_of x) b)
    → ◌≡◌ {A = ℕ × List ℕ} (r, o) (built x [] b)
unfolding built request_of
alone x b o r e =
    let n : length (start_of x) + 0 ≡ length (start_of x) = omega arith in
    rw (list-none x, append-nil) (rw n at e)

-- what was begun, where it was not refused
record Some (n : ℕ) (x b : List ℕ) (r : ℕ) (o : List ℕ) : Type 0 where
  count : r ≡ n
  buffer : o ≡ put 0 x b
  fits : n ≤ length b

module _ (n : ℕ) (x b : List ℕ) (r : ℕ) (o : List ℕ) (e : ◌≡◌ {A = ℕ × List ℕ} (r, o) (begun n x b)) where
  begun-cases : {P : Type 0} → (leb n longest and leb n (length b) ≡ false → r ≡ 0 → o ≡ b → P)
      → (leb n longest and leb n (length b) ≡ true → Some n x b r o → P) → P
  unfolding begun unless◌answer◌then◌
  begun-cases f g =
      by_cases (leb n longest and leb n (length b))
      (λ t.
      let q = rw t at e in
      g t (record { count = ap (λ (y : ℕ × List ℕ). y.0) q; buffer = ap (λ (y : ℕ × List ℕ). y.1) q; fits = leb-true _ _ (both _ _ t).1 }))
      (λ t. let q = rw t at e in f t (ap (λ (y : ℕ × List ℕ). y.0) q) (ap (λ (y : ℕ × List ℕ). y.1) q))

  some-begun : (r ≡ 0 → ⊥) → Some n x b r o
  some-begun h = begun-cases (λ t z q. absurd (h z)) (λ t s. s)

  -- the bytes at the front do not count for a refusal
  none-begun : (y : List ℕ) → r ≡ 0 → 0 < n → ◌≡◌ {A = ℕ × List ℕ} (0, o) (begun n y b)
  unfolding begun unless◌answer◌then◌
  none-begun y z h = begun-cases (λ t _ q. rw (t, q)) (λ t s. let c = s.count in absurd (omega arith))

  more-begun : (y z : List ℕ) → (r ≡ 0 → ⊥) → (o ≡ put 0 x b → z ≡ put 0 y b) → ◌≡◌ {A = ℕ × List ℕ} (r, z) (begun n y b)
  unfolding begun unless◌answer◌then◌
  more-begun y z h f = begun-cases (λ t z q. absurd (h z)) (λ t s. rw (t, s.count, f s.buffer))

module _ (x : Command) (list b : List ℕ) (r : ℕ) (o : List ℕ)
    (e : ◌≡◌ {A = ℕ × List ℕ} (r, o) (begun (length (start_of x) + length list) (start_of x) b)) where
  pub list-within : (r ≡ 0 → ⊥) → length list ≤ r
  list-within h = let s = some-begun _ _ _ _ _ e h in omega (arith, s.count)

  pub list-fits : (r ≡ 0 → ⊥) → r - length list + length list ≤ length o
  list-fits h =
      let s = some-begun _ _ _ _ _ e h in
      let l : length o ≡ length b = ap length s.buffer ∙ length-put 0 (start_of x) b in
      omega (arith, s.count, s.fits)

  module _ (g : (opcode_row (sent_of x).opcode).listed ≡ true) where
    whole_is : request_of x list ≡ start_of x ++ list
    unfolding request_of
    whole_is = rw (list-given x list g)

    whole_long : length (request_of x list) ≡ length (start_of x) + length list
    whole_long = rw (whole_is, length-append)

    pub list-refused : r ≡ 0 → ◌≡◌ {A = ℕ × List ℕ} (0, o) (built x list b)
    unfolding built
    list-refused z = rw whole_long (none-begun _ _ _ _ _ e (request_of x list) z (omega (arith, start-long x)))

    pub list-built : (o' : List ℕ) → (r ≡ 0 → ⊥) → o' ≡ put (r - length list) list o → ◌≡◌ {A = ℕ × List ℕ} (r, o') (built x list b)
    unfolding built
    list-built o' n p =
        let s = some-begun _ _ _ _ _ e n in
        let a : r - length list ≡ 0 + length (start_of x) = omega (arith, s.count) in
        rw whole_long (more-begun _ _ _ _ _ e (request_of x list) o' n
        (λ q. p ∙ rw (a, q) (sym (ap (λ (y : List ℕ). put 0 y b) whole_is ∙ put-append 0 (start_of x) list b))))
