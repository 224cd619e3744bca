mod CodeForms
mod Listing
mod SameEntries
mod Written
