-- REQUEST 2: bytes more at the end of a request, and what it asks is the same. Assumes nothing.
use mathlib.Core.Path.{◌≡◌, refl, sym, ◌∙◌}
use mathlib.Core.Bool.{true}
use mathlib.Core.List.{List, ◌++◌}
use Prim.Native.Nat.{ℕ, ◌+◌, ◌≤◌}
use native.Mathlib.Omega.{arith}
use lib.ListN.{length, drop, replicate, length-append, length-replicate, length-drop, drop_of_length-le}
use Rattle.protocol.specs.Opcodes.{opcode_row, opcode_rows, supported, fixed_size}
use Rattle.protocol.proofs.Rows.{fixed-longest}
use Rattle.frame.specs.Frame.{member_at, opcode_of, data_of}
use Rattle.frame.specs.Fields.{fields_of}
use Rattle.frame.proofs.Lengths.{rest-ignored, missing-zero, number_more, ask-more}
use Rattle.admin.specs.Command.{ask_in}
use Rattle.demands.specs.Lengths.{MissingIsZero, RestIsIgnored}
use Rattle.demands.proofs.SameAsked.{respond-same}

-- a request with bytes more
ask-same : (c r x : List ℕ) → 24 ≤ length r → length (r ++ x) ≤ 4096
    → ((ids m : ℕ) → supported (opcode_of r) ≡ true → fields_of ids m (opcode_of r) (data_of r ++ x) ≡ fields_of ids m (opcode_of r) (data_of r))
    → ask_in c (r ++ x) ≡ ask_in c r
unfolding ask_in
ask-same c r x long short fields = rw (number_more r x long 8 member_at (omega arith)) (ask-more r x long _ _ _ _ short (fields _ _))

-- the fixed fields of the two that have a list of parts
get-fixed : fixed_size 0x0f ≡ 16
unfolding fixed_size opcode_row opcode_rows
get-fixed = refl

set-fixed : fixed_size 0x10 ≡ 8
unfolding fixed_size opcode_row opcode_rows
set-fixed = refl

-- a request that ends where its list would start has none
no-list : (n : ℕ) (r s : List ℕ) → length r ≤ n → length s ≤ n → drop n s ≡ drop n r
no-list n r s h l = drop_of_length-le s l ∙ sym (drop_of_length-le r h)

pub missing-is-zero : MissingIsZero
missing-is-zero c r n room h l =
    let k : length (r ++ replicate n 0) ≡ length r + n = rw (length-append, length-replicate) in
    let most = fixed-longest (opcode_of r) in
    respond-same c r (r ++ replicate n 0) room
    (λ o. let f : fixed_size (opcode_of r) ≡ 16 = rw o get-fixed in no-list 40 r (r ++ replicate n 0) (omega arith) (omega arith))
    (λ o. let f : fixed_size (opcode_of r) ≡ 8 = rw o set-fixed in no-list 32 r (r ++ replicate n 0) (omega arith) (omega arith))
    (ask-same c r (replicate n 0) h (omega arith) λ ids m s. missing-zero ids m (opcode_of r) n (data_of r) s (omega (arith, length-drop 24 r)))

pub rest-is-ignored : RestIsIgnored
unfolding opcode_row opcode_rows
rest-is-ignored c r x room h o l =
    respond-same c r (r ++ x) room (λ e. let z = rw e at o in cc) (λ e. let z = rw e at o in cc)
    (ask-same c r x (omega arith) (rw length-append l) λ ids m s. rest-ignored ids m (opcode_of r) (data_of r) x s o (omega (arith, length-drop 24 r)))
