-- A port's word and a VLAN's: fields in range are read back, their word is in range, and a word in range holds what the rules allow.
-- Assumes nothing.
use Rattle.std.proofs.Common.{◌≡◌, ℕ, ◌+◌, ◌*◌, ◌/◌, ◌%◌, ◌<◌, ◌≤◌, true, w16, arith}
use Rattle.std.specs.Int.{rotate_right}
use Rattle.std.proofs.lemmas.Bool.Decides.{nat_tests}
use Rattle.rules.specs.Tags.{Header, header_of}
use Rattle.rules.specs.Arguments.{OperationNumbers, operation_in_range, PortNumbers, port_in_range, port_of, VlanNumbers, vlan_in_range, is_vid, bit}
use Rattle.layout.proofs.BitLaws.{five}
use Rattle.settings.specs.Ports.{vid_start, vid_end, is_vid_word, port_word, port_in, vlan_word, vlan_in, default_in, default_of, default_number}
use Rattle.settings.proofs.RangeLaws.{port_range, vlan_range}
use Rattle.settings.proofs.OperationLaws.{rotated}

-- ---- a word with a VID on top

pub record VidWord (w : ℕ) : Type 0 where
  pub least : vid_start ≤ w
  pub most : w < vid_end

pub vid_word : (w : ℕ) → is_vid_word w ≡ true → VidWord w
vid_word w h = grind (arith, nat_tests)

-- ---- a port

module _ (n : PortNumbers) (h : port_in_range n ≡ true) where
  pub port_back : port_in n.state n.operation (port_word n) ≡ n
  unfolding port_in
  port_back = grind (arith, port_range)

  pub port_word_good : is_vid_word (port_word n) ≡ true
  port_word_good = grind (arith, nat_tests, port_range)

-- what words in range hold is in the rules' ranges
pub port_in_range_law :
    (state : ℕ) (operation : OperationNumbers) (w : ℕ) → state ≤ 4 → operation_in_range operation ≡ true → is_vid_word w ≡ true
    → port_in_range (port_in state operation w) ≡ true
unfolding port_in port_in_range is_vid
port_in_range_law state operation w s o h = grind (arith, nat_tests)

-- ---- a VLAN

module _ (n : VlanNumbers) (h : vlan_in_range n ≡ true) where
  pub vlan_back : vlan_in n.operation (vlan_word n) ≡ n
  unfolding vlan_in
  vlan_back = grind (arith, vlan_range)

  pub vlan_word_good : is_vid_word (vlan_word n) ≡ true
  vlan_word_good = grind (arith, nat_tests, vlan_range)

pub vlan_in_range_law :
    (operation : OperationNumbers) (w : ℕ) → operation_in_range operation ≡ true → is_vid_word w ≡ true → vlan_in_range (vlan_in operation w) ≡ true
unfolding vlan_in vlan_in_range is_vid
vlan_in_range_law operation w o h = grind (arith, nat_tests)

-- ---- what a frame's way reads

-- the flag for frames with 0, 1 or 2 tags
pub bars_in : (state : ℕ) (operation : OperationNumbers) (w t : ℕ) → t < 3 → (port_of (port_in state operation w)).bars t ≡ bit w (2 + t)
unfolding port_of port_in bit
bars_in state operation w t h =
    five (λ t. t < 3 → bit (w / 4 % 8) t ≡ bit w (2 + t))
    (λ _. grind arith) (λ _. grind arith) (λ _. grind arith) (λ k. absurd (omega (arith, k))) (λ k. absurd (omega (arith, k))) t (omega arith) h

-- the default header, as a frame is stored with it
pub default_in_law : (state : ℕ) (operation : OperationNumbers) (w : ℕ) → default_of (default_in w) ≡ (port_of (port_in state operation w)).default
unfolding port_of port_in default_of
default_in_law state operation w = grind arith

pub default_back : (h : Header) → h.pcp < 8 → h.dei < 2 → default_of (default_number h) ≡ h
unfolding default_of default_number
default_back h p d = grind arith

pub number_back : (d : ℕ) → default_number (default_of d) ≡ d
unfolding default_of default_number
number_back d = grind arith

-- as a tag has it
pub default_tag : (d : ℕ) → d < 65536 → header_of (rotate_right w16 d 4) ≡ default_of d
unfolding default_of header_of
default_tag d h = rw (rotated d h) (grind arith)
