pub mod FactOrder
