-- `tags::writing::encode` meets its contract: what is left to write are the tags from `i` on.
use Prim.Native.Nat.{◌+◌, ◌*◌}
use mathlib.Core.Path.{◌≡◌}
use mathlib.Core.List.{map}
use lib.ListN.{drop}
use lib.Seq.{sets}
use Rattle.rules.specs.Tags.{stack_bytes}
use Rattle.tags.specs.Numbers.{tag_is}
use Rattle.tags.proofs.writing.encode.Given as goal

abbrev pub invariant-loop-i : goal.invariant-loop-i
invariant-loop-i l =
    sets l.out (l.at + 4 * l.i) (stack_bytes (map tag_is (drop l.i l.tag-items)))
    ≡ sets l.initial.out l.at (stack_bytes (map tag_is l.tag-items))
