pub mod Temporaries
