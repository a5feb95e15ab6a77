-- A call that is lent one memory changes that memory alone. Assumes nothing.
use Prim.Native.Nat.{ℕ}
use mathlib.Core.Path.{◌≡◌, refl}
use mathlib.Core.List.{List}
use Rattle.settings.specs.declared.call.AddressCall.{AddressCall}
use Rattle.settings.specs.declared.call.AddressCall.TheVariants.{Age, Static, Remove}
use Rattle.settings.specs.declared.call.LinkCall.{LinkCall}
use Rattle.settings.specs.declared.call.LinkCall.TheVariants.{Counter, Port, Vlan, ClearVlan, Map, QueueSwitch, Drain, Bpdu}
use Rattle.gufhrandi.specs.Memories.{Memories}
use Rattle.gufhrandi.specs.Runs.{on_links, on_addresses, run}
use Rattle.gufhrandi.specs.Asked.{address_asked, link_asked, address_run, link_run}

module _ (m : Memories) (buffer : List ℕ) where
  pub run_addresses : (c : AddressCall) → run m (address_asked c) buffer ≡ on_addresses m buffer (address_run m.addresses c)
  unfolding run address_asked address_run
  run_addresses Age = refl
  run_addresses (Static gid p address) = refl
  run_addresses (Remove gid address) = refl

  pub run_links : (c : LinkCall) → run m (link_asked c) buffer ≡ on_links m buffer (link_run m.links c)
  unfolding run link_asked link_run
  run_links (Counter p k) = refl
  run_links (Port p new) = refl
  run_links (Vlan new) = refl
  run_links (ClearVlan vid) = refl
  run_links (Map pcp q) = refl
  run_links (QueueSwitch p q on) = refl
  run_links (Drain p) = refl
  run_links (Bpdu on) = refl
