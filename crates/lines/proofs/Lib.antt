-- Lines of docs/replay.md, computed.
pub mod Cases
