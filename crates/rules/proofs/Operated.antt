-- The operations do what their sentences say. Assumes nothing.
use mathlib.Core.Path.{◌≡◌, refl}
use mathlib.Core.List.{List, [], ◌∷◌}
use Rattle.rules.specs.Tags.{Header, Tag}
use Rattle.rules.specs.Operations.{Source, outermost, second, given, Kind, none, pop, push, swap, pop_all, Operation, Origin, header_at, from, new_tag, on_stack, operate, leaving_tags}
use Rattle.rules.specs.LeavingTheorems.{HeaderFrom, from_operation, from_outermost, outermost_missing, from_second, second_missing, both_missing, IsNew, Operated, by_none, by_pop, by_pop_of_none, by_push, by_swap, by_swap_of_none, by_pop_all, LeavesWith}

outermost_from : (o : Origin) (own : Header) (tags : List Tag) → o.tags ≡ tags → HeaderFrom o own outermost (header_at o.default tags 0)
unfolding header_at
outermost_from o own [] e = outermost_missing e
outermost_from o own (a ∷ rest) e = from_outermost a rest e

second_from : (o : Origin) (own : Header) (tags : List Tag) → o.tags ≡ tags → HeaderFrom o own second (header_at o.default tags 1)
unfolding header_at
second_from o own [] e = both_missing e
second_from o own (a ∷ []) e = second_missing a e
second_from o own (a ∷ b ∷ rest) e = from_second a b rest e

header_from : (o : Origin) (own : Header) (x : Source) → HeaderFrom o own x (from o own x)
unfolding from
header_from o own outermost = outermost_from o own o.tags refl
header_from o own second = second_from o own o.tags refl
header_from o own given = from_operation

new_tag_law : (o : Origin) (operation : Operation) → IsNew o operation (new_tag o operation)
unfolding new_tag
new_tag_law o operation =
    record {
      type = refl;
      vid_header_law = from o operation.header operation.vid_from;
      vid_from_law = header_from o operation.header operation.vid_from;
      vid = refl;
      pcp_header_law = from o operation.header operation.pcp_from;
      pcp_from_law = header_from o operation.header operation.pcp_from;
      pcp = refl;
      dei = refl;
    }

by_kind : (o : Origin) (operation : Operation) (kind : Kind) → operation.kind ≡ kind → (stack : List Tag) → Operated o operation stack (on_stack kind (new_tag o operation) stack)
unfolding on_stack
by_kind o operation none e stack = by_none stack e
by_kind o operation pop e [] = by_pop_of_none e
by_kind o operation pop e (a ∷ rest) = by_pop a rest e
by_kind o operation push e stack = by_push (new_tag o operation) stack e (new_tag_law o operation)
by_kind o operation swap e [] = by_swap_of_none (new_tag o operation) e (new_tag_law o operation)
by_kind o operation swap e (a ∷ rest) = by_swap (new_tag o operation) a rest e (new_tag_law o operation)
by_kind o operation pop_all e stack = by_pop_all stack e

pub operated : (o : Origin) (operation : Operation) (stack : List Tag) → Operated o operation stack (operate o operation stack)
unfolding operate
operated o operation stack = by_kind o operation operation.kind refl stack

pub leaves_with : (o : Origin) (v p : Operation) → LeavesWith o v p (leaving_tags o v p)
unfolding leaving_tags
leaves_with o v p =
    record { between = operate o v o.tags; vlan_first = operated o v o.tags; port_second = operated o p (operate o v o.tags) }
