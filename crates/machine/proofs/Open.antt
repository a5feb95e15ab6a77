-- One name that opens every definition of the rules and of the machine, for theorems that compute: `unfolding everything`. Assumes nothing.
use Rattle.rules.specs.Choice
use Rattle.rules.specs.Lines
use Rattle.rules.specs.Tags
use Rattle.rules.specs.Operations
use Rattle.rules.specs.Settings
use Rattle.rules.specs.Tables
use Rattle.rules.specs.Addresses
use Rattle.rules.specs.Reasons
use Rattle.rules.specs.PortTests
use Rattle.rules.specs.Facts
use Rattle.rules.specs.ReasonTable
use Rattle.rules.specs.Outcomes
use Rattle.rules.specs.Arguments
use Rattle.rules.specs.Counters
use Rattle.rules.specs.Refusals
use Rattle.machine.specs.Waiting
use Rattle.machine.specs.Events
use Rattle.machine.specs.State
use Rattle.machine.specs.FrameIn
use Rattle.machine.specs.TakeOut
use Rattle.machine.specs.SettingCalls
use Rattle.machine.specs.Machine
use Rattle.machine.specs.History

unfoldable pub everything : Unit {0}
unfolding Rattle.rules.specs.Choice.sift
    Rattle.rules.specs.Choice.is_empty
    Rattle.rules.specs.Choice.is_nothing
    Rattle.rules.specs.Choice.among
    Rattle.rules.specs.Choice.without
    Rattle.rules.specs.Choice.changed
    Rattle.rules.specs.Lines.first
    Rattle.rules.specs.Tags.two_bytes_at
    Rattle.rules.specs.Tags.is_tag_type
    Rattle.rules.specs.Tags.header_of
    Rattle.rules.specs.Tags.tag_at
    Rattle.rules.specs.Tags.tags_of
    Rattle.rules.specs.Tags.address_at
    Rattle.rules.specs.Tags.destination
    Rattle.rules.specs.Tags.source
    Rattle.rules.specs.Tags.is_group
    Rattle.rules.specs.Tags.addresses
    Rattle.rules.specs.Tags.payload
    Rattle.rules.specs.Tags.header_bytes
    Rattle.rules.specs.Tags.tag_bytes
    Rattle.rules.specs.Tags.stack_bytes
    Rattle.rules.specs.Operations.header_at
    Rattle.rules.specs.Operations.from
    Rattle.rules.specs.Operations.new_tag
    Rattle.rules.specs.Operations.on_stack
    Rattle.rules.specs.Operations.operate
    Rattle.rules.specs.Operations.leaving_tags
    Rattle.rules.specs.Operations.padded
    Rattle.rules.specs.Operations.retagged
    Rattle.rules.specs.Settings.no_operation
    Rattle.rules.specs.Settings.is_blocking
    Rattle.rules.specs.Settings.is_listening
    Rattle.rules.specs.Settings.is_learning
    Rattle.rules.specs.Settings.departs
    Rattle.rules.specs.Settings.state_for
    Rattle.rules.specs.Settings.is_there
    Rattle.rules.specs.Settings.absent_vlan
    Rattle.rules.specs.Settings.vlan_of
    Rattle.rules.specs.Settings.or_default
    Rattle.rules.specs.Settings.assigned_vid
    Rattle.rules.specs.Settings.queue_pcp
    Rattle.rules.specs.Tables.put
    Rattle.rules.specs.Tables.is_found
    Rattle.rules.specs.Tables.meets
    Rattle.rules.specs.Tables.search
    Rattle.rules.specs.Tables.find_in
    Rattle.rules.specs.Tables.vacant
    Rattle.rules.specs.Tables.first_empty
    Rattle.rules.specs.Tables.empty_in
    Rattle.rules.specs.Tables.place_by
    Rattle.rules.specs.Tables.place_in
    Rattle.rules.specs.Tables.put_at
    Rattle.rules.specs.Tables.set_in
    Rattle.rules.specs.Tables.remove_found
    Rattle.rules.specs.Tables.remove_in
    Rattle.rules.specs.Addresses.key
    Rattle.rules.specs.Addresses.joined
    Rattle.rules.specs.Addresses.bucket_of
    Rattle.rules.specs.Addresses.bucket
    Rattle.rules.specs.Addresses.run
    Rattle.rules.specs.Addresses.places
    Rattle.rules.specs.Addresses.find
    Rattle.rules.specs.Addresses.empty_for
    Rattle.rules.specs.Addresses.with_mark
    Rattle.rules.specs.Addresses.answered
    Rattle.rules.specs.Addresses.look_up
    Rattle.rules.specs.Addresses.hit_marks
    Rattle.rules.specs.Addresses.after_look_up
    Rattle.rules.specs.Addresses.learning_by
    Rattle.rules.specs.Addresses.learning_of
    Rattle.rules.specs.Addresses.is_no_place
    Rattle.rules.specs.Addresses.learned_entry
    Rattle.rules.specs.Addresses.learn_by
    Rattle.rules.specs.Addresses.learn
    Rattle.rules.specs.Addresses.older
    Rattle.rules.specs.Addresses.aged
    Rattle.rules.specs.Addresses.goes
    Rattle.rules.specs.Addresses.removed
    Rattle.rules.specs.Addresses.static_entry
    Rattle.rules.specs.Addresses.set_static
    Rattle.rules.specs.Addresses.is_full
    Rattle.rules.specs.Addresses.no_place_for
    Rattle.rules.specs.Addresses.remove
    Rattle.rules.specs.Reasons.reason_number
    Rattle.rules.specs.PortTests.is_candidate
    Rattle.rules.specs.PortTests.is_passed
    Rattle.rules.specs.PortTests.any_candidate
    Rattle.rules.specs.PortTests.ports_left
    Rattle.rules.specs.PortTests.is_chosen
    Rattle.rules.specs.PortTests.port_test
    Rattle.rules.specs.PortTests.bpdu_test
    Rattle.rules.specs.Facts.is_bpdu
    Rattle.rules.specs.Facts.facts_of
    Rattle.rules.specs.ReasonTable.part_number
    Rattle.rules.specs.ReasonTable.reason_table
    Rattle.rules.specs.ReasonTable.lines_in
    Rattle.rules.specs.ReasonTable.rows_of
    Rattle.rules.specs.ReasonTable.is_asked
    Rattle.rules.specs.ReasonTable.reason_for
    Rattle.rules.specs.ReasonTable.is_past
    Rattle.rules.specs.Outcomes.frame_of
    Rattle.rules.specs.Outcomes.outcome_by
    Rattle.rules.specs.Outcomes.outcome_of
    Rattle.rules.specs.Outcomes.counts_tests
    Rattle.rules.specs.Outcomes.learns
    Rattle.rules.specs.Outcomes.learning_for
    Rattle.rules.specs.Outcomes.table_after
    Rattle.rules.specs.Outcomes.is_not_learned
    Rattle.rules.specs.Arguments.kind_of
    Rattle.rules.specs.Arguments.type_of
    Rattle.rules.specs.Arguments.source_of
    Rattle.rules.specs.Arguments.state_of
    Rattle.rules.specs.Arguments.bit
    Rattle.rules.specs.Arguments.flag
    Rattle.rules.specs.Arguments.is_vid
    Rattle.rules.specs.Arguments.is_address
    Rattle.rules.specs.Arguments.operation_in_range
    Rattle.rules.specs.Arguments.operation_of
    Rattle.rules.specs.Arguments.port_in_range
    Rattle.rules.specs.Arguments.port_of
    Rattle.rules.specs.Arguments.vlan_in_range
    Rattle.rules.specs.Arguments.vlan_entry
    Rattle.rules.specs.Counters.counter_number
    Rattle.rules.specs.Counters.outcomes
    Rattle.rules.specs.Counters.sum_over
    Rattle.rules.specs.Refusals.refusal_number
    Rattle.rules.specs.Refusals.fresh_lines
    Rattle.rules.specs.Refusals.frame_in_lines
    Rattle.rules.specs.Refusals.take_lines
    Rattle.rules.specs.Refusals.age_lines
    Rattle.rules.specs.Refusals.counter_lines
    Rattle.rules.specs.Refusals.port_lines
    Rattle.rules.specs.Refusals.vlan_lines
    Rattle.rules.specs.Refusals.clear_vlan_lines
    Rattle.rules.specs.Refusals.static_lines
    Rattle.rules.specs.Refusals.remove_lines
    Rattle.rules.specs.Refusals.map_lines
    Rattle.rules.specs.Refusals.queue_switch_lines
    Rattle.rules.specs.Refusals.drain_lines
    Rattle.rules.specs.Refusals.bpdu_lines
    Rattle.machine.specs.Waiting.size
    Rattle.machine.specs.Waiting.cells_in_use
    Rattle.machine.specs.Waiting.port_at
    Rattle.machine.specs.Waiting.waits_at
    Rattle.machine.specs.Waiting.queue_at
    Rattle.machine.specs.Waiting.oldest
    Rattle.machine.specs.Waiting.stay
    Rattle.machine.specs.Waiting.leave
    Rattle.machine.specs.Waiting.send
    Rattle.machine.specs.Waiting.drain
    Rattle.machine.specs.Waiting.join
    Rattle.machine.specs.Events.bumps
    Rattle.machine.specs.Events.count
    Rattle.machine.specs.Events.bump
    Rattle.machine.specs.Events.tally
    Rattle.machine.specs.Events.frame_into
    Rattle.machine.specs.Events.frame_out_of
    Rattle.machine.specs.Events.here
    Rattle.machine.specs.Events.put_in
    Rattle.machine.specs.Events.taken_out
    Rattle.machine.specs.State.free_cells
    Rattle.machine.specs.FrameIn.facts_at
    Rattle.machine.specs.FrameIn.mask
    Rattle.machine.specs.FrameIn.test_event
    Rattle.machine.specs.FrameIn.test_events
    Rattle.machine.specs.FrameIn.candidate_events
    Rattle.machine.specs.FrameIn.lesson_events
    Rattle.machine.specs.FrameIn.join_events
    Rattle.machine.specs.FrameIn.outcome_events
    Rattle.machine.specs.FrameIn.frame_in_events
    Rattle.machine.specs.FrameIn.outcome_answer
    Rattle.machine.specs.FrameIn.outcome_waiting
    Rattle.machine.specs.FrameIn.enters
    Rattle.machine.specs.FrameIn.frame_in_step
    Rattle.machine.specs.TakeOut.leaving_stack
    Rattle.machine.specs.TakeOut.leaving_bytes
    Rattle.machine.specs.TakeOut.first_waiting
    Rattle.machine.specs.TakeOut.served_queue
    Rattle.machine.specs.TakeOut.oldest_of
    Rattle.machine.specs.TakeOut.served
    Rattle.machine.specs.TakeOut.taken
    Rattle.machine.specs.TakeOut.take_step
    Rattle.machine.specs.TakeOut.drain_step
    Rattle.machine.specs.SettingCalls.silently
    Rattle.machine.specs.SettingCalls.settle
    Rattle.machine.specs.SettingCalls.with_port
    Rattle.machine.specs.SettingCalls.with_entry
    Rattle.machine.specs.SettingCalls.without_entry
    Rattle.machine.specs.SettingCalls.no_entry_left
    Rattle.machine.specs.SettingCalls.with_vlans
    Rattle.machine.specs.SettingCalls.with_queue
    Rattle.machine.specs.SettingCalls.with_switch
    Rattle.machine.specs.SettingCalls.with_bpdu
    Rattle.machine.specs.Machine.lines_of
    Rattle.machine.specs.Machine.age_step
    Rattle.machine.specs.Machine.carry_out
    Rattle.machine.specs.Machine.refusing
    Rattle.machine.specs.Machine.unless_refused
    Rattle.machine.specs.Machine.perform
    Rattle.machine.specs.Machine.next
    Rattle.machine.specs.History.fresh_port
    Rattle.machine.specs.History.fresh_vlan
    Rattle.machine.specs.History.fresh_settings
    Rattle.machine.specs.History.fresh
    Rattle.machine.specs.History.after
    Rattle.machine.specs.History.events
    Rattle.machine.specs.History.answers
    Rattle.machine.specs.History.start_unless_refused
    Rattle.machine.specs.History.start_answer
    Rattle.machine.specs.History.after₁
    Rattle.machine.specs.History.answer₁
    Rattle.machine.specs.History.life
    Rattle.machine.specs.History.life_answers
    Rattle.machine.specs.History.start_current
    Rattle.machine.specs.History.current₁
    Rattle.machine.specs.History.current_after
everything = tt
