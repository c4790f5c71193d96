-- for why sets are not read leniently
pub mod LenientLemmas
