pub mod FirstScopes
pub mod Iife
pub mod Law
pub mod ScopeBelow
