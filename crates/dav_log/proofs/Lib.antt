pub mod DamageLemmas
pub mod FrameLemmas
