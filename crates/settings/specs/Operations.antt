-- A tag operation in one word: bits 0-2 kind, 3 type, 4-5 VID source, 6-7 PCP source, 8 DEI, 9-11 PCP, 12-23 VID;
-- the rest is 0.
-- VID stands on top, so that one comparison says that it is 4,094 at most and that the unused bits are 0.
-- Kinds 5 to 7 read as 4 and a source 3 as 2. Assumes nothing: these are definitions.
use Rattle.std.specs.Prelude.{ℕ, ◌+◌, ◌*◌, ◌/◌, ◌%◌, min, Bool, eqb, ltb, leb}
use Rattle.rules.specs.Arguments.{OperationNumbers}
use Rattle.settings.specs.declared.operation.OperationSettings.{OperationSettings}

abbrev pub operation_is : OperationSettings → OperationNumbers
operation_is o =
    record {
      kind = o.kind;
      type = o.tag_type;
      vid_source = o.vid_source;
      pcp_source = o.pcp_source;
      vid = o.vid;
      pcp = o.pcp;
      dei = o.dei;
    }

abbrev pub operation_word : OperationNumbers → ℕ
operation_word n =
    n.kind + n.type * 8 + n.vid_source * 16 + n.pcp_source * 64 + n.dei * 256 + n.pcp * 512 + n.vid * 4096

unfoldable pub operation_in : ℕ → OperationNumbers
operation_in w =
    record {
      kind = min (w % 8) 4;
      type = w / 8 % 2;
      vid_source = min (w / 16 % 4) 2;
      pcp_source = min (w / 64 % 4) 2;
      vid = w / 4096;
      pcp = w / 512 % 8;
      dei = w / 256 % 2;
    }

-- 4095 * 4096
abbrev pub operation_end : ℕ
operation_end = 16773120

abbrev pub is_operation_word : ℕ → Bool
is_operation_word w = ltb w operation_end

-- ---- as a frame's stored header has it: the first word past the range says that no operation acts at all

abbrev pub is_stored_word : ℕ → Bool
is_stored_word w = leb w operation_end

abbrev pub is_exempt : ℕ → Bool
is_exempt w = eqb w operation_end

-- ---- an operation of the kind none, without the word's range

abbrev pub is_idle : ℕ → Bool
is_idle w = eqb (w % 8) 0
