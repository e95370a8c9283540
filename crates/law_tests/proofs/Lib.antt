pub mod FilterPremises
