-- What an operation by value stands for. Assumes nothing: these are definitions.
use Rattle.rules.specs.Tags.{header_of}
use Rattle.rules.specs.Operations.{Operation}
use Rattle.rules.specs.Arguments.{type_of}
use Rattle.tags.specs.declared.leaving.Operation as Code

unfoldable pub operation_is : Code.Operation → Operation
operation_is o =
    record {
      kind = o.kind;
      type = type_of o.tag_type;
      vid_from = o.vid_source;
      pcp_from = o.pcp_source;
      header = header_of o.header;
    }
