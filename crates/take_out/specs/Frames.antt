-- All that a take meets of the frame; the frame that memory holds is as `departure` has it. Assumes nothing: these
-- are definitions.
pub use Rattle.departure.specs.Frames.{stored_at, bytes_at, frame_at, operation_of_port, leaving_from, operation_fits}
pub use Rattle.departure.specs.Frames.{written}
unfoldable pub use Rattle.departure.specs.Frames.{frame_of, leaving_of, header_fits, can_send}
