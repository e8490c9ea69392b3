pub mod FlatLemmas
