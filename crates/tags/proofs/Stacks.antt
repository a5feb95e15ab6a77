-- What a stack by value holds: its length, its tags, and their headers. Assumes nothing.
use Prim.Native.Nat.{ℕ, zero, suc, ◌+◌, ◌-◌, ◌%◌, ◌<◌, ◌≤◌}
use mathlib.Core.Path.{◌≡◌, refl, ap, sym, ◌∙◌}
use mathlib.Core.List.{List, [], ◌∷◌, map}
use native.Mathlib.Omega.{arith}
use native.Mathlib.Numerals.{add-one}
use lib.ListN.{length, get_or, drop, take, get_or-eq_default}
use Rattle.std.proofs.lemmas.Grind.{get_or_after_one}
use Rattle.rules.specs.Tags.{Header, Tag, header_of}
use Rattle.rules.specs.Operations.{header_at}
use Rattle.tags.specs.Numbers.{tag_is, first_tags, stack_is}
use Rattle.tags.specs.declared.stack.Stack.{Stack}

first_tags_length : (k : ℕ) (ns : List ℕ) → length (first_tags k ns) ≡ k
unfolding first_tags
first_tags_length zero ns = refl
first_tags_length (suc k) ns = ap suc (first_tags_length k (drop 1 ns))

pub stack_length : (s : Stack) → length (stack_is s) ≡ s.count
unfolding stack_is
stack_length s = first_tags_length s.count s.tags

first_there : (k i : ℕ) (ns : List ℕ) (other : Tag) → i < k → get_or (first_tags k ns) i other ≡ tag_is (get_or ns i 0)
unfolding first_tags
first_there zero i ns other h = absurd (omega arith)
first_there (suc k) zero ns other h = refl
first_there (suc k) (suc i) [] other h = first_there k i [] other (omega arith)
first_there (suc k) (suc i) (n ∷ ns) other h = first_there k i ns other (omega arith)

pub tag_there : (s : Stack) (i : ℕ) (other : Tag) → i < s.count → get_or (stack_is s) i other ≡ tag_is (get_or s.tags i 0)
unfolding stack_is
tag_there s i other h = first_there s.count i s.tags other h

pub header_missing : (s : Stack) (default : Header) (i : ℕ) → s.count ≤ i → header_at default (stack_is s) i ≡ default
unfolding header_at
header_missing s default i h =
    let past : length (stack_is s) ≤ i = omega (arith, stack_length s) in
    ap (λ (t : Tag). t.header) (get_or-eq_default (stack_is s) (record { type = 0; header = default }) past)

pub header_outermost : (s : Stack) (default : Header) → 0 < s.count → header_of (get_or s.tags 0 0 % 65536) ≡ header_at default (stack_is s) 0
unfolding header_at tag_is
header_outermost s default h = ap (λ (t : Tag). t.header) (sym (tag_there s 0 (record { type = 0; header = default }) h))

first_mapped : (k : ℕ) (ns : List ℕ) → k ≤ length ns → first_tags k ns ≡ map tag_is (take k ns)
unfolding first_tags
first_mapped zero ns h = refl
first_mapped (suc k) [] h = absurd (omega arith)
first_mapped (suc k) (n ∷ ns) h = ap (λ (ts : List Tag). tag_is n ∷ ts) (first_mapped k ns (omega arith))

-- where the numbers are as many as are asked for
pub mapped : (s : Stack) → s.count ≤ length s.tags → stack_is s ≡ map tag_is (take s.count s.tags)
unfolding stack_is
mapped s few = first_mapped s.count s.tags few

-- the tags are the same where the numbers are
same_tags : (k : ℕ) (a b : List ℕ) → ((i : ℕ) → i < k → get_or a i 0 ≡ get_or b i 0) → first_tags k a ≡ first_tags k b
unfolding first_tags
same_tags zero a b same = refl
same_tags (suc k) a b same =
    let head : get_or a 0 0 ≡ get_or b 0 0 = same 0 (omega arith) in
    let next : (i : ℕ) → i < k → get_or (drop 1 a) i 0 ≡ get_or (drop 1 b) i 0 =
    λ i h. get_or_after_one a i 0 ∙ same (1 + i) (omega arith) ∙ sym (get_or_after_one b i 0) in
    rw (head, same_tags k (drop 1 a) (drop 1 b) next)

pub push_is :
    (tag : ℕ) (s : Stack) → s.count ≤ 3
    → stack_is (record { count = s.count + 1; tags = tag ∷ get_or s.tags 0 0 ∷ get_or s.tags 1 0 ∷ get_or s.tags 2 0 ∷ [] }) ≡ tag_is tag ∷ stack_is s
unfolding stack_is first_tags
push_is tag s h = rw add-one (ap (λ (ts : List Tag). tag_is tag ∷ ts) (same_tags s.count _ s.tags (λ i l. three i (omega arith))))
  where
    three : (i : ℕ) → i < 3 → get_or (get_or s.tags 0 0 ∷ get_or s.tags 1 0 ∷ get_or s.tags 2 0 ∷ []) i 0 ≡ get_or s.tags i 0
    three zero h = refl
    three (suc zero) h = refl
    three (suc (suc zero)) h = refl
    three (suc (suc (suc i))) h = absurd (omega arith)

pub pop_is :
    (s : Stack) → length s.tags ≡ 4
    → stack_is (record { count = s.count - 1; tags = get_or s.tags 1 0 ∷ get_or s.tags 2 0 ∷ get_or s.tags 3 0 ∷ 0 ∷ [] }) ≡ drop 1 (stack_is s)
unfolding stack_is first_tags
pop_is s four = popped s.count s.tags (omega arith)
  where
    behind : (i : ℕ) (ns : List ℕ) → length ns ≤ 4 → get_or (get_or ns 1 0 ∷ get_or ns 2 0 ∷ get_or ns 3 0 ∷ 0 ∷ []) i 0 ≡ get_or ns (1 + i) 0
    behind zero ns h = refl
    behind (suc zero) ns h = refl
    behind (suc (suc zero)) ns h = refl
    behind (suc (suc (suc zero))) ns h = sym (get_or-eq_default ns 0 (omega arith))
    behind (suc (suc (suc (suc i)))) ns h = sym (get_or-eq_default ns 0 (omega arith))

    popped : (k : ℕ) (ns : List ℕ) → length ns ≤ 4
        → first_tags (k - 1) (get_or ns 1 0 ∷ get_or ns 2 0 ∷ get_or ns 3 0 ∷ 0 ∷ []) ≡ drop 1 (first_tags k ns)
    popped zero ns h = refl
    popped (suc k) ns h =
        let less : suc k - 1 ≡ k = omega arith in
        rw less (same_tags k _ (drop 1 ns) (λ i l. behind i ns h ∙ sym (get_or_after_one ns i 0)))
