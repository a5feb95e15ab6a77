-- What the first lines of the call give the judgement. Assumes nothing.
use Prim.Native.Nat.{ℕ, ◌<◌}
use mathlib.Core.Path.{◌≡◌, ap, sym, ◌∙◌}
use mathlib.Core.Bool.{true}
use mathlib.Core.List.{List}
use native.Mathlib.Omega.{arith}
use Rattle.layout.specs.Places.{link_words}
use Rattle.layout.specs.Lengths.{cell_count, links_fit, addresses_fit}
use Rattle.layout.proofs.Fits.{links_fit_law, addresses_fit_law}
use Rattle.frame_in.specs.Judged.{Lent}

pub lent_is : (links addresses : List ℕ) (n port : ℕ) → links_fit links ≡ true → addresses_fit addresses ≡ true → n ≡ cell_count links → port < 5
    → Lent links addresses n port
lent_is links addresses n port fit placed count there =
    let l = links_fit_law links fit in
    record {
      count = count;
      most = omega (arith, l.most);
      long = l.long ∙ ap link_words (sym count);
      places = addresses_fit_law addresses placed;
      port_there = omega arith;
    }
