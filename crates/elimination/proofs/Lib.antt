pub mod Eliminating
pub mod Tops
