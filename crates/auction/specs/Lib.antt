pub mod Auctioneers
