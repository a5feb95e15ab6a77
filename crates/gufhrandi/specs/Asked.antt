-- The code's call as the machine's: what `src/perform.rt` asks. Assumes nothing: these are definitions.
use Rattle.std.specs.Prelude.{ℕ, List, []}
use Rattle.machine.specs.State.{Call, frame_in, take, age, counter, port, vlan, clear_vlan, static, remove, map}
use Rattle.machine.specs.State.{queue_switch, drain, bpdu}
use Rattle.layout.specs.declared.answers.Answer.{Answer}
use Rattle.settings.specs.Ports.{port_is, vlan_is}
use Rattle.settings.specs.declared.call.Call as Code
use Rattle.settings.specs.declared.call.Call.TheVariants.{FrameIn, Take, Addresses, Links}
use Rattle.settings.specs.declared.call.AddressCall.{AddressCall}
use Rattle.settings.specs.declared.call.AddressCall.TheVariants.{Age, Static, Remove}
use Rattle.settings.specs.declared.call.LinkCall.{LinkCall}
use Rattle.settings.specs.declared.call.LinkCall.TheVariants.{Counter, Port, Vlan, ClearVlan, Map, QueueSwitch, Drain}
use Rattle.settings.specs.declared.call.LinkCall.TheVariants.{Bpdu}
use Rattle.gufhrandi.specs.Memories.{Memories, Done}
use Rattle.gufhrandi.specs.Runs.{run}

abbrev pub memories : List ℕ → List ℕ → List ℕ → Memories
memories cells links addresses = record { cells = cells; links = links; addresses = addresses }

abbrev pub came_to : Answer → List ℕ → Memories → Done
came_to answer buffer m = record { answer = answer; buffer = buffer; memories = m }

unfoldable pub address_asked : AddressCall → Call
address_asked Age = age
address_asked (Static gid p address) = static (record { gid = gid; port = p; address = address })
address_asked (Remove gid address) = remove (record { gid = gid; address = address })

unfoldable pub link_asked : LinkCall → Call
link_asked (Counter p k) = counter (record { port = p; number = k })
link_asked (Port p new) = port (record { port = p; new = port_is new })
link_asked (Vlan new) = vlan (vlan_is new)
link_asked (ClearVlan vid) = clear_vlan vid
link_asked (Map pcp q) = map (record { pcp = pcp; queue = q })
link_asked (QueueSwitch p q on) = queue_switch (record { port = p; queue = q; on = on })
link_asked (Drain p) = drain p
link_asked (Bpdu on) = bpdu on

-- `frame`: a frame-in's; `room`: the length of take's buffer
unfoldable pub asked : List ℕ → ℕ → Code.Call → Call
asked frame room (FrameIn p) = frame_in (record { port = p; packet = record { bytes = frame } })
asked frame room (Take p) = take (record { port = p; buffer = room })
asked frame room (Addresses c) = address_asked c
asked frame room (Links c) = link_asked c

-- ---- the calls that are lent one memory: what `run` makes of it, whatever the others are

abbrev pub of_addresses : Done → Answer × List ℕ
of_addresses done = (done.answer, done.memories.addresses)

unfoldable pub address_run : List ℕ → AddressCall → Answer × List ℕ
address_run addresses c = of_addresses (run (memories [] [] addresses) (address_asked c) [])

abbrev pub of_links : Done → Answer × List ℕ
of_links done = (done.answer, done.memories.links)

unfoldable pub link_run : List ℕ → LinkCall → Answer × List ℕ
link_run links c = of_links (run (memories [] links []) (link_asked c) [])
