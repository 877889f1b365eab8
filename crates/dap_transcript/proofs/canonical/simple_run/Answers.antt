-- The vector test is compared with the definition at each byte.
use Rattle.std.proofs.Common.{ℕ, leb, cond, refl, arith}
use Rattle.std.proofs.lemmas.Simd.{zip2_splat, length-chunk}
use lib.Lanes.{chunk}
use Rattle.dap_transcript.proofs.SimpleVectors.{joined, simple_lanes, splat_is}
use Rattle.dap_transcript.proofs.canonical.simple_run.Goals as goal

pub returns : goal.returns
returns c =
    let v = chunk c.args.at 16 c.args.text.now in
    let long = length-chunk c.args.at 16 c.args.text.now c.requires in
    let run = simple_lanes _ refl c.args.text.now c.args.at 16 c.first_set.result _ c.requires
    (omega arith) c.type_inv.text c.first_set.ensures
    (joined _ _ _ v
    (joined _ _ _ v
    (joined (λ a b. cond (leb a b) 255 0) _ _ v (splat_is v 16 95 long)
    (zip2_splat {Y = ℕ} _ v 16 32 long))
    (zip2_splat {Y = ℕ} _ v 16 34 long))
    (zip2_splat {Y = ℕ} _ v 16 92 long)) in
    record { simple = run.0; within = run.1 }
