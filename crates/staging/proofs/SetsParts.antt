-- Finish is one parts set of the joined bytes: its reply is the same in any buffer of 8 bytes or more. Assumes nothing.
use mathlib.Core.Path.{◌≡◌, ap, sym, ◌∙◌}
use mathlib.Core.List.{List}
use Prim.Native.Nat.{ℕ, ◌+◌, ◌*◌}
use native.Mathlib.Omega.{arith}
use Rattle.wire.specs.Le.{number}
use Rattle.wire.proofs.Le.{number-none, number_step}
use Rattle.host.specs.Request.{set_parts}
use Rattle.reply.specs.Reply.{head_size}
use Rattle.admin.specs.Command.{respond}
use Rattle.staging.proofs.PartsSet.{respond-parts-set}
use Rattle.staging.specs.Staging.{held_bytes, concluded, finish_of}
use Rattle.staging.specs.Claims.{FinishIsPartsSet}
use Rattle.staging.proofs.Refusals.{on-open}
use Rattle.staging.proofs.Places.{held-short, has, open-unmarked}

-- a number of four bytes is two of two
halves : (l : List ℕ) → number 0 4 l ≡ number 0 2 l + 65536 * number 2 2 l
halves l =
    let a = number_step 0 3 l in
    let b = number_step 1 2 l in
    let c = number_step 0 1 l in
    let d = number_step 1 0 l in
    let e = number-none 2 l in
    rw (a, b, c, d, e) (omega arith)

pub finish-is-parts-set : FinishIsPartsSet
unfolding finish_of
finish-is-parts-set c m id room s h o small l =
    let u = open-unmarked c m s h o in
    let x = held_bytes c m in
    let w = held-short c m (has c m s h) in
    let short = respond-parts-set c m s h u head_size (omega arith) id small x (omega arith) in
    let long = respond-parts-set c m s h u room l id small x (omega arith) in
    let r : respond c (set_parts m id x) head_size ≡ respond c (set_parts m id x) room = short ∙ sym long in
    let f : finish_of c m id ≡ concluded m (respond c (set_parts m id x) room) = on-open c m _ s h u o ∙ ap (concluded m) r in
    record {
      answer = ap (λ (z : ℕ × List ℕ). z.0) f ∙ halves _;
      card = ap (λ (z : ℕ × List ℕ). z.1) f;
    }
