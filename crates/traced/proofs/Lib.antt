-- A run in which frames have every fate (Witness), and calls on lent bytes (BytesWitness); frames whose data is stored (DataWitness, DataBytesWitness); a
-- group that passes by its bit (FilterWitness); an arrival for each reason (ReasonsWitness); frames that are held across a Configure (FormWitness).
pub mod Witness
pub mod BytesWitness
pub mod DataWitness
pub mod DataBytesWitness
pub mod FilterWitness
pub mod ReasonsWitness
pub mod FormWitness
