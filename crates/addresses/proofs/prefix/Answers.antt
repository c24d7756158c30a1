-- An address that is a multiple of the size has the whole prefix below the top. Assumes nothing.
use native.Mathlib.Omega.{arith}
use Prim.Native.Nat.{◌-◌}
use lib.Pow.{pow_pos}
use Rattle.addresses.proofs.Masks.{prefix_fits}
use Rattle.addresses.proofs.prefix.Goals as goal

pub overflow_cast-result : goal.overflow_cast-result
overflow_cast-result c = let length = c.args.length in
    omega (arith, prefix_fits c.args.address length (omega arith) (omega arith) (cc), pow_pos (32 - length))
