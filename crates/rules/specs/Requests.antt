-- What a call hands over, by name: any numbers, in range or not. Assumes nothing: these are definitions.
use Rattle.std.specs.Prelude.{ℕ}
use Rattle.rules.specs.Arguments.{PortNumbers}
use Rattle.rules.specs.Facts.{Packet}

pub record FrameInRequest : Type 0 where
  pub port : ℕ
  pub packet : Packet

-- `buffer`: the length of the lent buffer
pub record TakeRequest : Type 0 where
  pub port : ℕ
  pub buffer : ℕ

pub record CounterRequest : Type 0 where
  pub port : ℕ
  pub number : ℕ

pub record PortRequest : Type 0 where
  pub port : ℕ
  pub new : PortNumbers

pub record StaticRequest : Type 0 where
  pub gid : ℕ
  pub port : ℕ
  pub address : ℕ

pub record RemoveRequest : Type 0 where
  pub gid : ℕ
  pub address : ℕ

pub record MapRequest : Type 0 where
  pub pcp : ℕ
  pub queue : ℕ

-- `on`: 0 or 1
pub record SwitchRequest : Type 0 where
  pub port : ℕ
  pub queue : ℕ
  pub on : ℕ
