-- The bench program: what a record asks of the switch. Assumes nothing: these are definitions.
use Rattle.std.specs.Prelude.{ℕ, ◌+◌, Bool, List, [], ◌∷◌, eqb, leb, ltb, length, drop, if◌then◌else◌, Result, Ok, Err}
use Rattle.rules.specs.Tags.{address_at}
use Rattle.rules.specs.declared.refusals.Refusal.{Refusal}
use Rattle.rules.specs.declared.refusals.Refusal.TheVariants.{BadRecord as bad_record}
use Rattle.records.specs.Reading.{byte_at, little_endian_at, kind_of}
use Rattle.settings.specs.declared.operation.OperationSettings.{OperationSettings}
use Rattle.settings.specs.declared.port.PortSettings.{PortSettings}
use Rattle.settings.specs.declared.vlan.VlanSettings.{VlanSettings}
use Rattle.settings.specs.declared.call.Call.{Call}
use Rattle.settings.specs.declared.call.Call.TheVariants.{FrameIn, Take, Addresses, Links}
use Rattle.settings.specs.declared.call.AddressCall.TheVariants.{Age, Static, Remove}
use Rattle.settings.specs.declared.call.LinkCall.TheVariants.{Counter, Port, Vlan, ClearVlan, Map, QueueSwitch, Drain}
use Rattle.settings.specs.declared.call.LinkCall.TheVariants.{Bpdu}
use Rattle.records.specs.declared.kinds.RecordKind.{RecordKind}
use Rattle.records.specs.declared.kinds.RecordKind.TheVariants.{FrameIn as frame_in, Take as take, Age as age, Counter as counter, Port as port, Vlan as vlan, ClearVlan as clear_vlan, Static as static, Remove as remove, Map as map, QueueSwitch as queue_switch, Drain as drain, Bpdu as bpdu}

-- kind; type; VID source; PCP source; VID(2); PCP; DEI
unfoldable pub operation_at : List ℕ → ℕ → OperationSettings
operation_at b i =
    record {
      kind = byte_at b i;
      tag_type = byte_at b (i + 1);
      vid_source = byte_at b (i + 2);
      pcp_source = byte_at b (i + 3);
      vid = little_endian_at b (i + 4);
      pcp = byte_at b (i + 6);
      dei = byte_at b (i + 7);
    }

-- state, assignment, VID(2), PCP, DEI, flags, operation(8)
unfoldable pub port_at : List ℕ → ℕ → PortSettings
port_at b i =
    record {
      state = byte_at b i;
      assignment = byte_at b (i + 1);
      vid = little_endian_at b (i + 2);
      pcp = byte_at b (i + 4);
      dei = byte_at b (i + 5);
      flags = byte_at b (i + 6);
      operation = operation_at b (i + 7);
    }

-- VID(2), members, GID, operation(8)
unfoldable pub vlan_at : List ℕ → ℕ → VlanSettings
vlan_at b i =
    record {
      vid = little_endian_at b i;
      members = byte_at b (i + 2);
      gid = byte_at b (i + 3);
      operation = operation_at b (i + 4);
    }

-- of a kind: its number, which sizes its body may have, and what a body asks
pub record Row : Type 0 where
  pub number : ℕ
  pub fits : ℕ → Bool
  pub asks : List ℕ → Call

abbrev row : ℕ → (ℕ → Bool) → (List ℕ → Call) → Row
row number fits asks = record { number = number; fits = fits; asks = asks }

abbrev exactly : ℕ → ℕ → Bool
exactly n size = eqb size n

abbrev at_least : ℕ → ℕ → Bool
at_least n size = leb n size

unfoldable pub row_of : RecordKind → Row
row_of frame_in = row 1 (at_least 1) (λ b. FrameIn (byte_at b 0))
row_of take = row 2 (exactly 1) (λ b. Take (byte_at b 0))
row_of age = row 3 (exactly 0) (λ b. Addresses Age)
row_of counter = row 4 (exactly 2) (λ b. Links (Counter (byte_at b 0) (byte_at b 1)))
row_of port = row 5 (exactly 16) (λ b. Links (Port (byte_at b 0) (port_at b 1)))
row_of vlan = row 6 (exactly 12) (λ b. Links (Vlan (vlan_at b 0)))
row_of clear_vlan = row 7 (exactly 2) (λ b. Links (ClearVlan (little_endian_at b 0)))
row_of static = row 8 (exactly 8) (λ b. Addresses (Static (byte_at b 0) (byte_at b 1) (address_at b 2)))
row_of remove = row 9 (exactly 7) (λ b. Addresses (Remove (byte_at b 0) (address_at b 1)))
row_of map = row 10 (exactly 2) (λ b. Links (Map (byte_at b 0) (byte_at b 1)))
row_of queue_switch = row 11 (exactly 3) (λ b. Links (QueueSwitch (byte_at b 0) (byte_at b 1) (byte_at b 2)))
row_of drain = row 12 (exactly 1) (λ b. Links (Drain (byte_at b 0)))
row_of bpdu = row 13 (exactly 1) (λ b. Links (Bpdu (byte_at b 0)))

unfoldable pub kinds : List RecordKind
kinds =
    frame_in ∷ take ∷ age ∷ counter ∷ port ∷ vlan ∷ clear_vlan ∷ static ∷ remove ∷ map ∷ queue_switch ∷ drain ∷ bpdu ∷ []

unfoldable pub kind_in : List RecordKind → ℕ → Result RecordKind Refusal
kind_in [] n = Err bad_record
kind_in (k ∷ ks) n = if eqb n (row_of k).number then Ok k else kind_in ks n

unfoldable pub kind_numbered : ℕ → Result RecordKind Refusal
kind_numbered n = kind_in kinds n

-- what a body asks, which must have a size of its kind
unfoldable pub asked : Result RecordKind Refusal → List ℕ → Result Call Refusal
asked (Ok kind) body = if (row_of kind).fits (length body) then Ok ((row_of kind).asks body) else Err bad_record
asked (Err refusal) body = Err refusal

-- a record without its length: the kind's two bytes, and the body
unfoldable pub request_of : List ℕ → Result Call Refusal
request_of bytes =
    if ltb 5000 (length bytes) then Err bad_record else asked (kind_numbered (kind_of bytes)) (drop 2 bytes)
