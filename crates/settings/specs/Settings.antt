-- A port is three words and a VLAN two. Assumes nothing: these are definitions.
use Rattle.std.specs.Prelude.{ℕ}
use Rattle.rules.specs.Arguments.{PortNumbers, VlanNumbers}
use Rattle.settings.specs.Operations.{operation_in}
use Rattle.settings.specs.Ports.{port_in, vlan_in}
use Rattle.settings.specs.States.{state_in}

-- the states' word, the port's own and its operation's
abbrev pub port_of_words : ℕ → ℕ → ℕ → ℕ → PortNumbers
port_of_words states own operation port = port_in (state_in states port) (operation_in operation) own

abbrev pub vlan_of_words : ℕ → ℕ → VlanNumbers
vlan_of_words own operation = vlan_in (operation_in operation) own
