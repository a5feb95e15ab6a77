-- What memory gives a frame, fact by fact. Assumes nothing.
use Prim.Native.Nat.{ℕ}
use mathlib.Core.Path.{◌≡◌, refl}
use mathlib.Core.Bool.{true, false}
use mathlib.Core.List.{List}
use lib.Dec.{ltb}
use lib.ListN.{length}
use Rattle.rules.specs.Cells.{cells}
use Rattle.rules.specs.Tags.{tags_of, destination, source, is_group}
use Rattle.rules.specs.Settings.{is_there, vlan_of, assigned_vid, queue_pcp, state_for}
use Rattle.rules.specs.Addresses.{key, look_up as rule_look_up}
use Rattle.rules.specs.PortTests.{is_chosen, port_test, bpdu_test}
use Rattle.rules.specs.Facts.{is_bpdu, facts_of}
use Rattle.settings.specs.SettingsOf.{settings_of}
use Rattle.addresses.specs.Numbers.{table_of}
use Rattle.cells.specs.Free.{free_count}
use Rattle.frame_in.specs.Facts.{facts_in}

module _ (links addresses frame : List ℕ) (port : ℕ) where
  pub facts_bytes : (facts_in links addresses port frame).packet.bytes ≡ frame
  unfolding facts_in facts_of
  facts_bytes = refl

  pub facts_port : (facts_in links addresses port frame).port ≡ port
  unfolding facts_in facts_of
  facts_port = refl

  pub facts_default : (facts_in links addresses port frame).default ≡ ((settings_of links).port port).default
  unfolding facts_in facts_of
  facts_default = refl

  pub facts_bpdu : (facts_in links addresses port frame).bpdu ≡ is_bpdu (settings_of links) port frame
  unfolding facts_in facts_of
  facts_bpdu = refl

  pub facts_vid : (facts_in links addresses port frame).vid
      ≡ assigned_vid ((settings_of links).port port).assignment ((settings_of links).port port).default (tags_of frame)
  unfolding facts_in facts_of
  facts_vid = refl

  pub facts_there : (facts_in links addresses port frame).there ≡ is_there (settings_of links).vlans (facts_in links addresses port frame).vid
  unfolding facts_in facts_of
  facts_there = refl

  pub facts_vlan : (facts_in links addresses port frame).vlan ≡ vlan_of (settings_of links).vlans (facts_in links addresses port frame).vid
  unfolding facts_in facts_of
  facts_vlan = refl

  pub facts_gid : (facts_in links addresses port frame).gid ≡ (facts_in links addresses port frame).vlan.gid
  unfolding facts_in facts_of
  facts_gid = refl

  pub facts_state : (facts_in links addresses port frame).state ≡ ((settings_of links).port port).state
  unfolding facts_in facts_of state_for
  facts_state = refl

  pub facts_source : (facts_in links addresses port frame).source_key ≡ key (facts_in links addresses port frame).gid (source frame)
  unfolding facts_in facts_of
  facts_source = refl

  pub facts_look_up : (facts_in links addresses port frame).look_up
      ≡ rule_look_up (table_of addresses) (is_group (destination frame)) (key (facts_in links addresses port frame).gid (destination frame))
  unfolding facts_in facts_of
  facts_look_up = refl

  pub facts_chosen : (facts_in links addresses port frame).chosen ≡ is_chosen (facts_in links addresses port frame).look_up
  unfolding facts_in facts_of
  facts_chosen = refl

  pub facts_room : (facts_in links addresses port frame).outnumbers ≡ ltb (free_count links) (cells (length frame))
  unfolding facts_in facts_of
  facts_room = refl

  -- ---- an ordinary frame

  module _ (ordinary : (facts_in links addresses port frame).bpdu ≡ false) where
    pub ordinary_queue : (facts_in links addresses port frame).queue ≡ (settings_of links).queue_of (queue_pcp ((settings_of links).port port).default (tags_of frame))
    unfolding facts_in facts_of
    ordinary_queue = rw ordinary

    pub ordinary_test : (facts_in links addresses port frame).test
        ≡ port_test (settings_of links) (facts_in links addresses port frame).vlan (facts_in links addresses port frame).chosen port (facts_in links addresses port frame).queue
    unfolding facts_in facts_of
    ordinary_test = rw ordinary

  -- ---- a BPDU to port 4

  module _ (bpdu : (facts_in links addresses port frame).bpdu ≡ true) where
    pub bpdu_queue_law : (facts_in links addresses port frame).queue ≡ 3
    unfolding facts_in facts_of
    bpdu_queue_law = rw bpdu

    pub bpdu_test_law : (facts_in links addresses port frame).test ≡ bpdu_test (settings_of links)
    unfolding facts_in facts_of
    bpdu_test_law = rw bpdu
