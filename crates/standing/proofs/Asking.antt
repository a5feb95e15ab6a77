-- What `gufhrandi::perform` asks is what a driver can hand over: each call that the code makes is one that a history may hold.
-- Assumes nothing.
use mathlib.Core.Path.{refl}
use mathlib.Core.List.{List}
use Prim.Native.Nat.{ℕ}
use lib.ListN.{length}
use Rattle.rules.specs.Tags.{Bytes}
use Rattle.settings.specs.declared.call.Call.{Call}
use Rattle.settings.specs.declared.call.Call.TheVariants.{FrameIn, Take, Addresses, Links}
use Rattle.settings.specs.declared.call.AddressCall.{AddressCall}
use Rattle.settings.specs.declared.call.AddressCall.TheVariants.{Age, Static, Remove}
use Rattle.settings.specs.declared.call.LinkCall.{LinkCall}
use Rattle.settings.specs.declared.call.LinkCall.TheVariants.{Counter, Port, Vlan, ClearVlan, Map, QueueSwitch, Drain, Bpdu}
use Rattle.gufhrandi.specs.Asked.{address_asked, link_asked, asked}
use Rattle.standing.specs.Follows.{Handed}

addresses_handed : (buffer : List ℕ) (call : AddressCall) → Handed (address_asked call) buffer
unfolding Handed address_asked
addresses_handed buffer Age = tt
addresses_handed buffer (Static gid p address) = tt
addresses_handed buffer (Remove gid address) = tt

links_handed : (buffer : List ℕ) (call : LinkCall) → Handed (link_asked call) buffer
unfolding Handed link_asked
links_handed buffer (Counter p k) = tt
links_handed buffer (Port p new) = tt
links_handed buffer (Vlan new) = tt
links_handed buffer (ClearVlan vid) = tt
links_handed buffer (Map pcp q) = tt
links_handed buffer (QueueSwitch p q on) = tt
links_handed buffer (Drain p) = tt
links_handed buffer (Bpdu on) = tt

pub asked_handed : (frame buffer : List ℕ) (call : Call) → Bytes frame → Handed (asked frame (length buffer) call) buffer
unfolding Handed asked
asked_handed frame buffer (FrameIn p) bytes = bytes
asked_handed frame buffer (Take p) bytes = refl
asked_handed frame buffer (Addresses c) bytes = addresses_handed buffer c
asked_handed frame buffer (Links c) bytes = links_handed buffer c
