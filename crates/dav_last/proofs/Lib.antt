pub mod BatchLemmas
pub mod BothLemmas
pub mod CrashLemmas
pub mod ImageLemmas
pub mod SlotLemmas
