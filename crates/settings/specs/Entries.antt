-- A VLAN's entry as frame-in reads it: as the settings' calls have it, but for the word of its operation.
-- Assumes nothing: these are definitions.
use Rattle.rules.specs.Arguments.{VlanNumbers}
use Rattle.settings.specs.Operations.{operation_in}
use Rattle.settings.specs.declared.vlan.Entry.{Entry}

abbrev pub entry_is : Entry → VlanNumbers
entry_is e = record { vid = e.vid; members = e.members; gid = e.gid; operation = operation_in e.operation.word }
