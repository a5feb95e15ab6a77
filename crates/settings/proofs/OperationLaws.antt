-- A tag operation in one word: fields in range are read back, their word is in range, and a word in range holds what the rules allow.
-- Assumes nothing.
use Rattle.std.proofs.Common.{◌≡◌, ℕ, min, ◌+◌, ◌*◌, ◌/◌, ◌%◌, ◌<◌, ◌≤◌, ◌∙◌, true, false, w16, arith}
use Rattle.std.proofs.lemmas.Nat.{or_comm, or_shifted}
use Rattle.std.specs.Int.{rotate_right}
use Rattle.std.proofs.lemmas.Bool.Decides.{nat_tests}
use Rattle.std.proofs.lemmas.Grind.{common_steps}
use Rattle.rules.specs.Tags.{header_of}
use Rattle.rules.specs.declared.operations.Kind.{Kind}
use Rattle.rules.specs.declared.operations.Kind.TheVariants.{Nothing, Pop, Push, Swap, PopAll}
use Rattle.rules.specs.declared.operations.Source.{Source}
use Rattle.rules.specs.declared.operations.Source.TheVariants.{Outermost, Second, Given}
use Rattle.rules.specs.Arguments.{OperationNumbers, operation_in_range, operation_of, kind_of, source_of}
use Rattle.settings.specs.Ranges.{OperationRange}
use Rattle.settings.specs.Operations.{operation_word, operation_in, operation_end, is_operation_word, is_stored_word, is_exempt}
use Rattle.settings.proofs.RangeLaws.{operation_range}

-- ---- fields in range

module _ (n : OperationNumbers) (r : OperationRange n) where
  pub range_good : is_operation_word (operation_word n) ≡ true
  range_good = grind (arith, nat_tests)

  pub range_back : operation_in (operation_word n) ≡ n
  unfolding operation_in
  range_back = grind arith

module _ (n : OperationNumbers) (h : operation_in_range n ≡ true) where
  -- are read back
  pub operation_back : operation_in (operation_word n) ≡ n
  operation_back = range_back n (operation_range n h)

  pub operation_word_small : operation_word n < operation_end
  operation_word_small = grind (arith, operation_range)

-- what a word in range holds is in the rules' ranges
pub operation_in_range_law : (w : ℕ) → is_operation_word w ≡ true → operation_in_range (operation_in w) ≡ true
unfolding operation_in operation_in_range
operation_in_range_law w h = grind (arith, nat_tests)

-- ---- as a frame's stored header has it: the first word past the range says that no operation acts at all

pub good_stored : (w : ℕ) → is_operation_word w ≡ true → (is_stored_word w ≡ true) × (is_exempt w ≡ false)
good_stored w h = grind (arith, nat_tests)

pub stored_good : (w : ℕ) → is_stored_word w ≡ true → is_exempt w ≡ false → is_operation_word w ≡ true
stored_good w h e = grind (arith, nat_tests)

-- ---- as the rules read it

pub kind_in_law : (w : ℕ) → (operation_of (operation_in w)).kind ≡ kind_of (w % 8)
unfolding operation_of operation_in kind_of
kind_in_law w = grind (arith, common_steps)

source_in_law : (k : ℕ) → source_of (min k 2) ≡ source_of k
unfolding source_of
source_in_law k = grind (arith, common_steps)

pub vid_source_in : (w : ℕ) → (operation_of (operation_in w)).vid_from ≡ source_of (w / 16 % 4)
unfolding operation_of operation_in
vid_source_in w = source_in_law (w / 16 % 4)

pub pcp_source_in : (w : ℕ) → (operation_of (operation_in w)).pcp_from ≡ source_of (w / 64 % 4)
unfolding operation_of operation_in
pcp_source_in w = source_in_law (w / 64 % 4)

-- a header with its VID on top, as a tag has it: the low four bits on top
pub rotated : (d : ℕ) → d < 65536 → rotate_right w16 d 4 ≡ d % 16 * 4096 + d / 16
rotated d h =
    let top : d * 4096 % 65536 ≡ d % 16 * 4096 = omega arith in
    rw top (or_comm (d / 16) (d % 16 * 4096) ∙ or_shifted (d % 16) 12 (d / 16) (omega (arith, h)))

-- the given header
pub given_in : (w : ℕ) → w < operation_end → header_of (rotate_right w16 (w / 256) 4) ≡ (operation_of (operation_in w)).header
unfolding operation_of operation_in header_of
given_in w h = rw (rotated (w / 256) (omega arith)) (grind arith)

-- each kind has a number in range of its own, and so has each source
unfoldable pub kind_number : Kind → ℕ
kind_number Nothing = 0
kind_number Pop = 1
kind_number Push = 2
kind_number Swap = 3
kind_number PopAll = 4

unfoldable pub source_number : Source → ℕ
source_number Outermost = 0
source_number Second = 1
source_number Given = 2

pub every_kind : (k : Kind) → (kind_of (kind_number k) ≡ k) × (kind_number k ≤ 4)
unfolding kind_of kind_number
every_kind k = grind (arith, common_steps)

pub every_source : (s : Source) → (source_of (source_number s) ≡ s) × (source_number s ≤ 2)
unfolding source_of source_number
every_source s = grind (arith, common_steps)
