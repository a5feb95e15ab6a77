-- A leaving frame written in four runs: addresses, tags, payload and zeros. Assumes nothing.
use Prim.Native.Nat.{ℕ, ◌+◌, ◌*◌, ◌-◌, ◌≤◌}
use mathlib.Core.Path.{◌≡◌, refl, sym, ap, ap₂, ◌∙◌}
use mathlib.Core.List.{List, ◌++◌}
use native.Mathlib.Omega.{arith}
use lib.ListN.{length, take, drop, replicate, length-append, length-drop, length-replicate}
use lib.Seq.{sets, length-take-le, get_or-take}
use Rattle.rules.specs.Tags.{Tag, tags_of, tag_at, two_bytes_at, addresses, payload, stack_bytes}
use Rattle.rules.specs.Cells.{cells}
use Rattle.rules.specs.Operations.{padded, retagged}
use Rattle.slices.proofs.Runs.{sets_append}
use Rattle.tags.specs.declared.stack.Stack.{Stack}
use Rattle.tags.specs.Numbers.{stack_is}
use Rattle.tags.proofs.Laws.{stack_bytes_length}
use Rattle.tags.proofs.Stacks.{stack_length}
use Rattle.cells.specs.Chains.{follow, walk}
use Rattle.cells.specs.Bytes.{front_in, load_from}
use Rattle.departure.specs.declared.departing.Departing.{Departing}
use Rattle.departure.specs.Departing.{frame_bytes, leaving_bytes, leaving_tags_of, Wrote}
use Rattle.departure.specs.Frames.{written, finished}
use Rattle.departure.proofs.Departs.{last_is, bytes_are, whole, front_is}

-- the tags stand in the first twenty bytes
two_front : (bytes : List ℕ) (i : ℕ) → i + 2 ≤ 20 → two_bytes_at (take 20 bytes) i ≡ two_bytes_at bytes i
unfolding two_bytes_at
two_front bytes i h = rw (get_or-take 20 bytes i 0 (omega arith), get_or-take 20 bytes (i + 1) 0 (omega arith))

pub tags_front : (bytes : List ℕ) → tags_of (take 20 bytes) ≡ tags_of bytes
unfolding tags_of tag_at
tags_front bytes =
    rw (two_front bytes 12 (omega arith), two_front bytes 14 (omega arith), two_front bytes 16 (omega arith), two_front bytes 18 (omega arith))

module _ (out bytes : List ℕ) (stack : List Tag) (k t long : ℕ) (whole : length bytes ≡ long) (many : 60 ≤ long)
    (own : length (tags_of bytes) ≡ t) (few : t ≤ 2) (new : length (stack_bytes stack) ≡ 4 * k)
    (end : ℕ) (behind : end ≡ 12 + 4 * k + (long - (12 + 4 * t))) where
  payload_long : length (payload bytes) ≡ long - (12 + 4 * t)
  unfolding payload
  payload_long = length-drop (12 + 4 * length (tags_of bytes)) bytes ∙ (let z : length bytes - (12 + 4 * length (tags_of bytes)) ≡ long - (12 + 4 * t) = rw (own, whole) in z)

  body_long : length (addresses bytes ++ (stack_bytes stack ++ payload bytes)) ≡ end
  unfolding addresses
  body_long =
      omega (arith, length-append (take 12 bytes) (stack_bytes stack ++ payload bytes), length-append (stack_bytes stack) (payload bytes), length-take-le 12 bytes (omega arith), payload_long)

  payload_is : drop (12 + 4 * t) bytes ≡ payload bytes
  unfolding payload
  payload_is = rw own

  -- the first three runs
  runs : sets out 0 (addresses bytes ++ (stack_bytes stack ++ payload bytes))
      ≡ sets (sets (sets out 0 (take 12 bytes)) 12 (stack_bytes stack)) (12 + 4 * k) (drop (12 + 4 * t) bytes)
  unfolding addresses
  runs =
      sets_append out 0 (take 12 bytes) (stack_bytes stack ++ payload bytes)
      ∙ ap (λ (y : ℕ). sets (sets out 0 (take 12 bytes)) y (stack_bytes stack ++ payload bytes)) (let z : 0 + length (take 12 bytes) ≡ 12 = omega (arith, length-take-le 12 bytes (omega arith)) in z)
      ∙ sets_append (sets out 0 (take 12 bytes)) 12 (stack_bytes stack) (payload bytes)
      ∙ ap₂ (λ (y : ℕ) (p : List ℕ). sets (sets (sets out 0 (take 12 bytes)) 12 (stack_bytes stack)) y p) (ap (12 +◌) new) (sym payload_is)

  pub retagged_written :
      (end + (60 - end), sets (sets (sets (sets out 0 (take 12 bytes)) 12 (stack_bytes stack)) (12 + 4 * k) (drop (12 + 4 * t) bytes)) end (replicate (60 - end) 0))
      ≡ written out (retagged bytes stack)
  unfolding retagged padded
  retagged_written =
      let body : List ℕ = addresses bytes ++ (stack_bytes stack ++ payload bytes) in
      let zeros : List ℕ = replicate (60 - length body) 0 in
      let long_all : length (body ++ zeros) ≡ end + (60 - end) = length-append body zeros ∙ ap₂ ◌+◌ body_long (length-replicate (60 - length body) 0 ∙ ap (60 -◌) body_long) in
      ap₂ (λ (x : ℕ) (y : List ℕ). (x, y)) (sym long_all)
      (sym
      (sets_append out 0 body zeros
      ∙ ap₂ (λ (x : List ℕ) (y : ℕ). sets x (0 + y) (replicate (60 - y) 0)) runs body_long
      ∙ ap (λ (y : ℕ). sets (sets (sets (sets out 0 (take 12 bytes)) 12 (stack_bytes stack)) (12 + 4 * k) (drop (12 + 4 * t) bytes)) y (replicate (60 - end) 0)) (let z : 0 + end ≡ end = omega arith in z)))

  -- the first two runs are written
  pub front_written : {first : List ℕ} → first ≡ sets (sets out 0 (take 12 bytes)) 12 (stack_bytes stack)
      → finished first (12 + 4 * t) (12 + 4 * k) bytes end ≡ written out (retagged bytes stack)
  front_written e = rw e retagged_written

-- ---- the frame that leaves

module _ (d : Departing) (out : List ℕ) where
  -- the addresses and the tags, which are the frame's own where they stand in its first cell
  pub front_wrote : (first after : List ℕ) (own new : Stack)
      → first ≡ sets out 0 (front_in d.cells.now d.c 12)
      → stack_is own ≡ tags_of (front_in d.cells.now d.c 20)
      → own.count ≤ 2
      → stack_is new ≡ leaving_tags_of d (stack_is own)
      → after ≡ sets first 12 (stack_bytes (stack_is new))
      → finished after (12 + 4 * own.count) (12 + 4 * new.count) (frame_bytes d) (12 + 4 * new.count + (d.long - (12 + 4 * own.count)))
      ≡ written out (leaving_bytes d)
  front_wrote first after own new addresses read few made e =
      let bytes : List ℕ = frame_bytes d in
      let own_is : stack_is own ≡ tags_of bytes = read ∙ ap tags_of (front_is d 20 (omega arith)) ∙ tags_front bytes in
      let before : first ≡ sets out 0 (take 12 bytes) = addresses ∙ ap (sets out 0) (front_is d 12 (omega arith)) in
      front_written out bytes (stack_is new) new.count own.count d.long (whole d) d.length.0 (sym (ap length own_is) ∙ stack_length own) few
      (stack_bytes_length new) _ refl
      (e ∙ ap (λ (x : List ℕ). sets x 12 (stack_bytes (stack_is new))) before)
      ∙ ap (λ (x : List Tag). written out (retagged bytes x)) (made ∙ ap (leaving_tags_of d) own_is)

  -- then the rest of the frame, and zeros
  pub retagged_wrote : (front loaded after : List ℕ) (from at end last count : ℕ)
      → finished front from at (frame_bytes d) end ≡ written out (leaving_bytes d)
      → end ≤ 4091
      → last ≡ walk d.n.number d.links.now (cells d.long - 1) d.c
      → loaded ≡ load_from from front d.cells.now at d.long (follow d.n.number d.links.now (cells d.long) d.c)
      → (count ≡ end + (60 - end)) × (after ≡ sets loaded end (replicate (60 - end) 0))
      → Wrote d out (record { long = count; last = last }) after
  retagged_wrote front loaded after from at end last count f few l e p =
      let is : loaded ≡ sets front at (drop from (frame_bytes d)) = rw (bytes_are d) at e in
      record {
        bytes = rw (p.0, p.1, is) f;
        short = omega (arith, p.0);
        last = last_is d last l;
      }
